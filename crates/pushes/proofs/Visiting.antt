-- The steps of a walk through what a repository keeps, and that it ends in one way.
use Rattle.std.proofs.Common.{◌≡◌, ℕ, zero, suc, ◌<◌, ◌≤◌, ◌+◌, ◌-◌, ◌*◌, ◌^◌, Bool, true, false, List, [], ◌∷◌, ◌++◌, Option, Some, None, drop, inl}
use Rattle.std.proofs.Common.{inr, length, reverse, refl, sym, ap, subst, ◌∙◌, append_assoc, arith, length-append}
use Rattle.std.specs.Prelude.{IfSome, IfNone, if◌then◌else◌}
use Rattle.std.proofs.Math.Seq.{drop-append_seam}
use Rattle.std.proofs.lemmas.List.{append-nil, reverse-append}
use Rattle.git_object.specs.Objects.{Pair}
use Rattle.git_object.specs.Repository.{HasObject, Repository}
use Rattle.git_object.proofs.ObjectAt.{object_none, object_there}
use Rattle.pushes.specs.Naming.{names_of}
use Rattle.pushes.specs.Needing.{Walk, after, is_done, names_or, next_at}
use Rattle.pushes.proofs.Walks.{tri}
use Rattle.pushes.specs.Reaching.{AreReached, Ends, names_kept}

-- ---- what an object that was read names

pub names_there : (r : Repository) (id : List ℕ) (found : Option Pair) (pair : Pair) → found ≡ Some pair → IfSome found (HasObject r id)
    → names_of pair ≡ names_kept r id
names_there r id found pair is has =
    ap names_or (sym (object_there r id pair (subst (λ (o : Option Pair). IfSome o (HasObject r id)) is has)))

pub names_nowhere : (r : Repository) (id : List ℕ) (found : Option Pair) → found ≡ None → IfNone found ((pair : Pair) → HasObject r id pair → ⊥)
    → names_kept r id ≡ []
names_nowhere r id found is never =
    ap names_or (object_none r id (subst (λ (o : Option Pair). IfNone o ((pair : Pair) → HasObject r id pair → ⊥)) is never))

-- ---- the steps of a walk whose next id is the last of a list

-- the walk has come so far
pub record ComesTo (r : Repository) (start : Walk) (seen ahead : List (List ℕ)) : Type 0 where
  pub step : ℕ
  pub is : after (names_kept r) step start ≡ record { seen = seen; ahead = reverse ahead }

reverse_last : (ahead : List (List ℕ)) (id : List ℕ) → reverse (ahead ++ id ∷ []) ≡ id ∷ reverse ahead
reverse_last ahead id = reverse-append ahead (id ∷ [])

module _ (r : Repository) (start : Walk) (seen : List (List ℕ)) where
  pub at_start : (ahead : List (List ℕ)) → start ≡ record { seen = seen; ahead = reverse ahead } → ComesTo r start seen ahead
  at_start ahead is = record { step = zero; is = is }

  module _ (ahead : List (List ℕ)) (id : List ℕ) (at : ComesTo r start seen (ahead ++ id ∷ [])) where
    here : after (names_kept r) at.step start ≡ record { seen = seen; ahead = id ∷ reverse ahead }
    here = at.is ∙ ap (λ (a : List (List ℕ)). record { seen = seen; ahead = a }) (reverse_last ahead id)

    next_is : after (names_kept r) (suc at.step) start ≡ next_at (names_kept r) seen (id ∷ reverse ahead)
    next_is = ap (λ (w : Walk). next_at (names_kept r) w.seen w.ahead) here

    abbrev Chosen : Bool → Walk
    Chosen b = if b then record { seen = seen; ahead = reverse ahead } else record { seen = seen ++ id ∷ []; ahead = names_kept r id ++ reverse ahead }

    pub skipped : is_done seen id ≡ true → ComesTo r start seen ahead
    skipped done = record { step = suc at.step; is = next_is ∙ ap Chosen done }

    pub went : (ahead' : List (List ℕ)) → is_done seen id ≡ false → reverse ahead' ≡ names_kept r id ++ reverse ahead
        → ComesTo r start (seen ++ id ∷ []) ahead'
    went ahead' done is = record {
      step = suc at.step;
      is = next_is ∙ ap Chosen done ∙ ap (λ (a : List (List ℕ)). record { seen = seen ++ id ∷ []; ahead = a }) (sym is);
    }

-- nothing is ahead any more
pub ended : (r : Repository) (first seen ahead now : List (List ℕ)) → ahead ≡ [] → ComesTo r (record { seen = first; ahead = now }) seen ahead
    → Ends r first now seen
ended r first seen ahead now e at = record {
  step = at.step;
  is = at.is ∙ ap (λ (a : List (List ℕ)). record { seen = seen; ahead = reverse a }) e;
}

-- ---- the measure of a walk falls

pub room : List (List ℕ) → ℕ
room seen = (2 ^ 63 - length seen) * 2 ^ 63

falls : (n m a b : ℕ) → n < 2 ^ 63 → m ≡ n + 1 → b < 2 ^ 63 → (2 ^ 63 - m) * 2 ^ 63 + b < (2 ^ 63 - n) * 2 ^ 63 + a
falls n m a b small more short = omega (arith, small, more, short)

pub smaller : (seen next before ahead : List (List ℕ)) (id : List ℕ) → length seen < 2 ^ 63 → next ≡ seen ++ id ∷ [] → length ahead < 2 ^ 63
    → room next + length ahead < room seen + length before
unfolding room
smaller seen next before ahead id small is short =
    let more : length next ≡ length seen + 1 = ap length is ∙ length-append seen (id ∷ []) in
    falls (length seen) (length next) (length before) (length ahead) small more short

-- ---- a walk ends in one way

next_stays : (r : Repository) (w : Walk) → w.ahead ≡ [] → next_at (names_kept r) w.seen w.ahead ≡ w
next_stays r w e =
    ap (next_at (names_kept r) w.seen) e ∙ ap (λ (a : List (List ℕ)). record { seen = w.seen; ahead = a }) (sym e)

stays : (r : Repository) (start : Walk) (n k m : ℕ) → m ≡ k + n → (after (names_kept r) n start).ahead ≡ []
    → after (names_kept r) m start ≡ after (names_kept r) n start
stays r start n zero m is e = let same : m ≡ n = omega (arith, is) in ap (λ (j : ℕ). after (names_kept r) j start) same
stays r start n (suc k) m is e =
    let next : m ≡ suc (k + n) = omega (arith, is) in
    let before = stays r start n k (k + n) refl e in
    ap (λ (j : ℕ). after (names_kept r) j start) next ∙ ap (λ (w : Walk). next_at (names_kept r) w.seen w.ahead) before
    ∙ next_stays r (after (names_kept r) n start) e

later_same : (r : Repository) (start : Walk) (n m : ℕ) → n ≤ m → (after (names_kept r) n start).ahead ≡ []
    → after (names_kept r) m start ≡ after (names_kept r) n start
later_same r start n m le e = stays r start n (m - n) m (omega (arith, le)) e

pub one_end : (r : Repository) (seen ahead a b : List (List ℕ)) → Ends r seen ahead a → Ends r seen ahead b → a ≡ b
one_end r seen ahead a b x y =
    let start : Walk = record { seen = seen; ahead = ahead } in
    let x_end : (after (names_kept r) x.step start).ahead ≡ [] = ap (λ (w : Walk). w.ahead) x.is in
    let y_end : (after (names_kept r) y.step start).ahead ≡ [] = ap (λ (w : Walk). w.ahead) y.is in
    let x_seen : (after (names_kept r) x.step start).seen ≡ a = ap (λ (w : Walk). w.seen) x.is in
    let y_seen : (after (names_kept r) y.step start).seen ≡ b = ap (λ (w : Walk). w.seen) y.is in
    elim (tri x.step y.step) [
      | inl lt ↦ sym x_seen ∙ ap (λ (w : Walk). w.seen) (sym (later_same r start x.step y.step (omega (arith, lt)) x_end)) ∙ y_seen
      | inr (inl same) ↦ sym x_seen ∙ ap (λ (k : ℕ). (after (names_kept r) k start).seen) same ∙ y_seen
      | inr (inr gt) ↦ sym x_seen ∙ ap (λ (w : Walk). w.seen) (later_same r start y.step x.step (omega (arith, gt)) y_end) ∙ y_seen
    ]

same_behind : (front a b : List (List ℕ)) → front ++ a ≡ front ++ b → a ≡ b
same_behind [] a b e = e
same_behind (x ∷ front) a b e = same_behind front a b cc

pub one_reached : (r : Repository) (before target : List ℕ) (xs ys : List (List ℕ)) → AreReached r before target xs → AreReached r before target ys → xs ≡ ys
one_reached r before target xs ys a b =
    let known : a.known ≡ b.known = one_end r [] (before ∷ []) a.known b.known a.from_before b.from_before in
    let other : Ends r a.known (target ∷ []) (b.known ++ ys) =
    subst (λ (k : List (List ℕ)). Ends r k (target ∷ []) (b.known ++ ys)) (sym known) b.from_target in
    let same : a.known ++ xs ≡ b.known ++ ys = one_end r a.known (target ∷ []) (a.known ++ xs) (b.known ++ ys) a.from_target other in
    same_behind a.known xs ys (same ∙ ap (λ (k : List (List ℕ)). k ++ ys) (sym known))

-- ---- what was visited grows

abbrev pub Grows : List (List ℕ) → List (List ℕ) → Type 0
Grows old new = (more : List (List ℕ)) × (new ≡ old ++ more)

pub grows_none : (seen : List (List ℕ)) → Grows seen seen
grows_none seen = ([], sym (append-nil seen))

-- what stands behind the first of what was visited
pub behind_is : (first whole ids back : List (List ℕ)) (known : ℕ) → Grows first whole → known ≡ length first → back ≡ drop known whole → ids ≡ back
    → whole ≡ first ++ ids
behind_is first whole ids back known (more, is) len back_is same =
    let rest : drop known whole ≡ more = ap (λ (n : ℕ). drop n whole) len ∙ ap (drop (length first)) is ∙ drop-append_seam first more in
    is ∙ ap (λ (m : List (List ℕ)). first ++ m) (sym (same ∙ back_is ∙ rest))

pub grows_one : (old seen next : List (List ℕ)) (id : List ℕ) → Grows old seen → next ≡ seen ++ id ∷ [] → Grows old next
grows_one old seen next id (more, is) e =
    (more ++ id ∷ [], e ∙ ap (λ (s : List (List ℕ)). s ++ id ∷ []) is ∙ append_assoc old more (id ∷ []))
