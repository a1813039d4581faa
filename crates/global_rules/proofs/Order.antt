-- The order of ancestors is one, and more turns add at its end alone.
use Rattle.std.proofs.Common.{◌≡◌, ◌≤◌, ◌+◌, ◌++◌, ℕ, suc, zero, Bool, true, false, List, [], ◌∷◌, length, Option, Some, None, refl, sym, ap, ◌∙◌, arith}
use Rattle.std.specs.Prelude.{slice_get, if◌then◌else◌}
use Rattle.std.specs.List.{filter}
use Rattle.std.proofs.lemmas.List.{append_assoc, append-nil, length-append}
use Rattle.std.proofs.lemmas.List.Elements.{filter-append}
use Rattle.std.proofs.lemmas.Option.{slice_get_past}
use Rattle.global_rules.specs.Descents.{IsDescent}
use Rattle.global_rules.specs.Order.{Parents, after_turn, ancestors, has_id, is_commit, met, parents_or_none, with_id, with_new}
use Rattle.global_rules.specs.declared.descents.Descent.{Descent}
use Rattle.global_rules.specs.declared.descents.Descent.TheVariants.{No, TooFar, Yes}

pub one : (most : ℕ) (parents : Parents) (root from : List ℕ) (a b : Descent) → IsDescent most parents root from a → IsDescent most parents root from b → a ≡ b
one most parents root from Yes Yes x y = refl
one most parents root from Yes No x y = absurd (y.0 x)
one most parents root from Yes TooFar x y = absurd (y.0 x)
one most parents root from No Yes x y = absurd (x.0 y)
one most parents root from No No x y = refl
one most parents root from No TooFar x y = absurd (x.1 y.1)
one most parents root from TooFar Yes x y = absurd (x.0 y)
one most parents root from TooFar No x y = absurd (y.1 x.1)
one most parents root from TooFar TooFar x y = refl

abbrev pub Front : List (List ℕ) → List (List ℕ) → Type 0
Front xs ys = (rest : List (List ℕ)) × (ys ≡ xs ++ rest)

pub new_front : (xs ids : List (List ℕ)) → Front xs (with_new xs ids)
new_front xs [] = ([], sym (append-nil xs))
new_front xs (id ∷ ids) = by_test (has_id xs id) (new_front xs ids) (new_front (xs ++ id ∷ []) ids)
  where
    by_test : (b : Bool) → Front xs (with_new xs ids) → Front (xs ++ id ∷ []) (with_new (xs ++ id ∷ []) ids) → Front xs (with_new (if b then xs else xs ++ id ∷ []) ids)
    by_test true same added = same
    by_test false same added = (id ∷ added.0, added.1 ∙ append_assoc xs (id ∷ []) added.0)

with_id_few : (xs : List (List ℕ)) (id : List ℕ) (b : Bool) → length (if b then xs else xs ++ id ∷ []) ≤ length xs + 1
with_id_few xs id true = omega arith
with_id_few xs id false = omega (arith, length-append xs (id ∷ []))

-- no more are added than are given
pub new_few : (xs ids : List (List ℕ)) → length (with_new xs ids) ≤ length xs + length ids
new_few xs [] = omega arith
new_few xs (id ∷ ids) =
    let rest = new_few (with_id xs id) ids in
    let one : length (with_id xs id) ≤ length xs + 1 = with_id_few xs id (has_id xs id) in
    omega (arith, rest, one)

module _ (parents : Parents) (root : List ℕ) where
  turn_front : (xs : List (List ℕ)) (id : Option (List ℕ)) → Front xs (after_turn parents xs id)
  turn_front xs None = ([], sym (append-nil xs))
  turn_front xs (Some id) = new_front xs (parents_or_none (parents id))

  pub met_first : met parents root zero ≡ root ∷ []
  unfolding met
  met_first = refl

  pub met_suc : (n : ℕ) → met parents root (suc n) ≡ after_turn parents (met parents root n) (slice_get (met parents root n) n)
  unfolding met
  met_suc n = refl

  pub met_front : (n more : ℕ) → Front (met parents root n) (met parents root (more + n))
  met_front n zero = ([], ap (met parents root) (let e : zero + n ≡ n = omega arith in e) ∙ sym (append-nil (met parents root n)))
  met_front n (suc more) =
      let before = met_front n more in
      let turn = turn_front (met parents root (more + n)) (slice_get (met parents root (more + n)) (more + n)) in
      let step : met parents root (suc more + n) ≡ met parents root (more + n) ++ turn.0 =
      ap (met parents root) (let e : suc more + n ≡ suc (more + n) = omega arith in e) ∙ met_suc (more + n) ∙ turn.1 in
      (before.0 ++ turn.0, step ∙ ap (λ (xs : List (List ℕ)). xs ++ turn.0) before.1 ∙ append_assoc (met parents root n) before.0 turn.0)

  pub ancestors_front : (n more : ℕ) → Front (ancestors parents root n) (ancestors parents root (more + n))
  ancestors_front n more =
      let front = met_front n more in (
        filter (is_commit parents) front.0,
        ap (filter (is_commit parents)) front.1 ∙ filter-append (is_commit parents) (met parents root n) front.0,
      )

  pub met_closed : (n more : ℕ) → length (met parents root n) ≤ n → met parents root (more + n) ≡ met parents root n
  met_closed n zero all = ap (met parents root) (let e : zero + n ≡ n = omega arith in e)
  met_closed n (suc more) all =
      let same = met_closed n more all in
      let past : slice_get (met parents root (more + n)) (more + n) ≡ None =
      slice_get_past (met parents root (more + n)) (more + n) (let e = ap length same in omega (arith, e, all)) in
      ap (met parents root) (let e : suc more + n ≡ suc (more + n) = omega arith in e) ∙ met_suc (more + n)
      ∙ ap (after_turn parents (met parents root (more + n))) past ∙ same
