-- What a walk has found where it stops.
use Rattle.std.proofs.Common.{◌≡◌, ◌≤◌, ◌<◌, ◌+◌, ◌++◌, ◌||◌, ℕ, suc, zero, Bool, true, false, List, [], ◌∷◌, length, take, Some, refl, sym, ap, subst, ◌∙◌, arith}
use Rattle.std.specs.Prelude.{slice_get}
use Rattle.std.specs.Str.{bytes_eq}
use Rattle.std.proofs.lemmas.Bool.{true≢false}
use Rattle.std.proofs.lemmas.List.{append_assoc, append-nil, length-append, take_at}
use Rattle.std.proofs.lemmas.Slice.Eq.{bytes_eq-Decides}
use Rattle.global_rules.specs.Descents.{IsAncestor, IsDescent, IsWalked}
use Rattle.global_rules.specs.Order.{Parents, ancestors, commits, has_id, met, parent_lines}
use Rattle.global_rules.specs.declared.descents.Descent.TheVariants.{No, TooFar, Yes}
use Rattle.global_rules.proofs.Order.{ancestors_front, met_closed}
use Rattle.global_rules.proofs.Turns.{IsAtTurn, has_more, order_at, take_front}

or_true : (b : Bool) → (b || true) ≡ true
or_true true = refl
or_true false = refl

-- what stands within so many places is found there
found_within : (most : ℕ) (front more : List (List ℕ)) (id : List ℕ) → length front < most → has_id (take most (front ++ id ∷ more)) id ≡ true
found_within zero front more id less = absurd (omega (arith, less))
found_within (suc most) [] more id less = ap (λ (b : Bool). b || has_id (take most more) id) ((bytes_eq-Decides id id).1 refl)
found_within (suc most) (x ∷ front) more id less =
    ap (λ (b : Bool). bytes_eq x id || b) (found_within most front more id (omega (arith, less))) ∙ or_true (bytes_eq x id)

-- what is not in a list is in no front of it
not_within : (n : ℕ) (xs : List (List ℕ)) (id : List ℕ) → has_id xs id ≡ false → has_id (take n xs) id ≡ true → ⊥
not_within zero xs id none has = true≢false (sym has)
not_within (suc n) [] id none has = true≢false (sym has)
not_within (suc n) (x ∷ xs) id none has = by_test (bytes_eq x id) (not_within n xs id) none has
  where
    by_test : (b : Bool) → (has_id xs id ≡ false → has_id (take n xs) id ≡ true → ⊥) → (b || has_id xs id) ≡ false → (b || has_id (take n xs) id) ≡ true → ⊥
    by_test true next none has = true≢false none
    by_test false next none has = next none has

module _ (most : ℕ) (parents : Parents) (root from : List ℕ) where
  -- what is an ancestor is one after so many turns more
  later : (at n : ℕ) → has_id (take most (ancestors parents root n)) from ≡ true → has_id (take most (ancestors parents root (at + n))) from ≡ true
  later at n has =
      let front = ancestors_front parents root n at in
      let more = take_front most (ancestors parents root n) front.0 in
      ap (λ (xs : List (List ℕ)). has_id (take most xs) from) front.1
      ∙ ap (λ (xs : List (List ℕ)). has_id xs from) more.1
      ∙ has_more (take most (ancestors parents root n)) more.0 from has

  module _ (at : ℕ) (ids : List (List ℕ)) (count : ℕ) (walk : IsAtTurn parents root from at ids count) where
    -- the commit that is looked for has its turn
    pub finds : (id : List ℕ) (found : List (List ℕ)) → slice_get ids at ≡ Some id → parents id ≡ Some found → id ≡ from → count < most → IsDescent most parents root from Yes
    finds id found here some same less =
        let order = order_at parents root from at ids count walk id found here some in
        let within = found_within most (commits parents walk.front) order.0 id (let e = walk.count_is in omega (arith, e, less)) in (
          at,
          ap (λ (xs : List (List ℕ)). has_id (take most xs) from) order.1
              ∙ subst (λ (x : List ℕ). has_id (take most (commits parents walk.front ++ id ∷ order.0)) x ≡ true) same within,
        )

    -- one commit more has its turn than is looked at
    pub is_too_far : (id : List ℕ) (found : List (List ℕ)) → slice_get ids at ≡ Some id → parents id ≡ Some found → count ≡ most → IsDescent most parents root from TooFar
    is_too_far id found here some full =
        let order = order_at parents root from at ids count walk id found here some in
        let all : length (commits parents walk.front) ≡ most = sym walk.count_is ∙ full in
        let longer : length (commits parents walk.front ++ id ∷ order.0) ≡ length (commits parents walk.front) + suc (length order.0) = length-append (commits parents walk.front) (id ∷ order.0) in
        let more : length (ancestors parents root at) ≡ length (commits parents walk.front) + suc (length order.0) = ap length order.1 ∙ longer in
        (no_ancestor order.0 order.1 all, (at, omega (arith, more, all)))
      where
        no_ancestor : (rest : List (List ℕ)) → ancestors parents root at ≡ commits parents walk.front ++ id ∷ rest → length (commits parents walk.front) ≡ most
            → IsAncestor most parents root from → ⊥
        no_ancestor rest order all has =
            let n = has.0 in
            let front = ancestors_front parents root at n in
            let swap : at + n ≡ n + at = omega arith in
            let whole : ancestors parents root (at + n) ≡ commits parents walk.front ++ (id ∷ rest ++ front.0) =
            ap (ancestors parents root) swap ∙ front.1 ∙ ap (λ (xs : List (List ℕ)). xs ++ front.0) order ∙ joined rest front.0 in
            let cut : take most (ancestors parents root (at + n)) ≡ commits parents walk.front =
            ap (take most) whole ∙ take_at (commits parents walk.front) (id ∷ rest ++ front.0) most all in
            true≢false (sym (later at n has.1) ∙ ap (λ (xs : List (List ℕ)). has_id xs from) cut ∙ walk.none)
          where
            joined : (xs ys : List (List ℕ)) → (commits parents walk.front ++ id ∷ xs) ++ ys ≡ commits parents walk.front ++ (id ∷ xs ++ ys)
            joined xs ys = append_assoc (commits parents walk.front) (id ∷ xs) ys

    -- each that was met had its turn
    pub is_no : length ids ≤ at → count ≤ most → IsDescent most parents root from No
    is_no all few = (
      λ has. not_within most (commits parents walk.front) from walk.none (sym (ap (λ (xs : List (List ℕ)). has_id (take most xs) from) (same has.0)) ∙ later at has.0 has.1),
      λ more.
          let front = ancestors_front parents root more.0 at in
          let e = ap length (same more.0) in
          let f = ap length front.1 ∙ length-append (ancestors parents root more.0) front.0 in
          let g = walk.count_is in
          omega (arith, e, f, g, few, more.1),
    )
      where
        whole : ids ≡ walk.front
        whole = by_rest walk.rest walk.parts
          where
            by_rest : (rest : List (List ℕ)) → ids ≡ walk.front ++ rest → ids ≡ walk.front
            by_rest [] is = is ∙ append-nil walk.front
            by_rest (x ∷ rest) is =
                let e = ap length is ∙ length-append walk.front (x ∷ rest) in
                let f = walk.at_is in absurd (omega (arith, e, f, all))

        same : (n : ℕ) → ancestors parents root (at + n) ≡ commits parents walk.front
        same n =
            let swap : at + n ≡ n + at = omega arith in
            ap (ancestors parents root) swap
            ∙ ap (commits parents) (met_closed parents root at n (let e = ap length walk.met_is in omega (arith, e, all)) ∙ sym walk.met_is ∙ whole)

    -- what was read, and how much that can be
    pub is_walked : (before now : ℕ) → count ≤ most → at ≤ length ids → now ≤ before + length ids → IsWalked most parents root before now
    is_walked before now few within once =
        let front : take at (met parents root at) ≡ walk.front =
        ap (take at) (sym walk.met_is ∙ walk.parts) ∙ take_at walk.front walk.rest at walk.at_is in
        let size : length (met parents root at) ≡ length ids = ap length (sym walk.met_is) in
        record {
          turns = at;
          few = (let e = ap (λ (xs : List (List ℕ)). length (commits parents xs)) front in let g = walk.count_is in omega (arith, e, g, few));
          once = omega (arith, size, once);
          named = (let e = ap (parent_lines parents) front in omega (arith, e, size, walk.named));
        }
