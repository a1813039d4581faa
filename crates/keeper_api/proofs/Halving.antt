-- Objects that are kept by halves are kept as in their order.
use Rattle.std.proofs.Common.{◌≡◌, ℕ, Bool, true, false, cond, not, List, [], ◌∷◌, Option, Some, None, refl, sym, ap, ◌∙◌, subst, ◌+◌, ◌<◌, add-one, drop, drop-cons, get_or, length}
use Rattle.std.proofs.lemmas.Bool.{false≢true, true≢false}
use Rattle.std.proofs.lemmas.Cmp.{nat_list_cmp_total}
use Rattle.std.proofs.lemmas.Option.{none-some}
use Rattle.std.specs.Cmp.{eq_by_cmp_equiv}
use Rattle.std.specs.FinMap.{get, get-insert, insert, same_map}
use Rattle.std.specs.Ordering.{eq_by_cmp}
use Rattle.octets.specs.BytesMap.{BytesMap, by_bytes}
use Rattle.git_object.specs.Objects.{Pair, pair_id}
use Rattle.keeper_api.specs.Changes.{with_objects}
use Rattle.keeper_api.specs.Halves.{AreNew, half}
use Rattle.keeper_api.proofs.Trees.{exact_bytes}

some_is_none : {X : Type 0} (b : Bool) (x : X) (y : Option X) → cond b (Some x) y ≡ None → (b ≡ false) × (y ≡ None)
some_is_none true x y is = absurd (none-some x (sym is))
some_is_none false x y is = (refl, is)

-- what is not kept after objects are kept was not kept before
was_absent : (pairs : List Pair) (m : BytesMap Pair) (q : List ℕ) → get (with_objects pairs m) q ≡ None → get m q ≡ None
was_absent [] m q is = is
was_absent (pair ∷ pairs) m q is =
    (some_is_none (eq_by_cmp by_bytes q (pair_id pair)) pair (get m q) (sym (get-insert nat_list_cmp_total m (pair_id pair) pair q) ∙ was_absent pairs (insert m (pair_id pair) pair) q is)).1

other_order : {X : Type 0} (a b : Bool) (x y : X) (g : Option X) → (a ≡ true → b ≡ false) → cond b (Some y) (cond a (Some x) g) ≡ cond a (Some x) (cond b (Some y) g)
other_order true true x y g apart = absurd (false≢true (sym (apart refl)))
other_order true false x y g apart = refl
other_order false b x y g apart = refl

-- objects of other ids are kept in either order
kept_in_turn : (m : BytesMap Pair) (k : List ℕ) (pair other : Pair) → eq_by_cmp by_bytes k (pair_id other) ≡ false → insert (insert m (pair_id other) other) k pair ≡ insert (insert m k pair) (pair_id other) other
kept_in_turn m k pair other apart = same_map nat_list_cmp_total exact_bytes _ _ (λ q.
    let order = nat_list_cmp_total in
    let one = insert m (pair_id other) other in
    let two = insert m k pair in
    get-insert order one k pair q
    ∙ ap (cond (eq_by_cmp by_bytes q k) (Some pair)) (get-insert order m (pair_id other) other q)
    ∙ sym (get-insert order two (pair_id other) other q ∙ ap (cond (eq_by_cmp by_bytes q (pair_id other)) (Some other)) (get-insert order m k pair q)
    ∙ other_order (eq_by_cmp by_bytes q k) (eq_by_cmp by_bytes q (pair_id other)) pair other (get m q) (λ is. (eq_by_cmp_equiv order).congr q k (pair_id other) is ∙ apart)))

-- an object whose id is new after others are kept may go before them
may_go_first : (pairs : List Pair) (m : BytesMap Pair) (k : List ℕ) (pair : Pair) → get (with_objects pairs m) k ≡ None → insert (with_objects pairs m) k pair ≡ with_objects pairs (insert m k pair)
may_go_first [] m k pair is = refl
may_go_first (other ∷ pairs) m k pair is =
    let more = insert m (pair_id other) other in
    let apart = (some_is_none (eq_by_cmp by_bytes k (pair_id other)) other (get m k) (sym (get-insert nat_list_cmp_total m (pair_id other) other k) ∙ was_absent pairs more k is)).0 in
    may_go_first pairs more k pair is ∙ ap (with_objects pairs) (kept_in_turn m k pair other apart)

-- one half and then the other
pub halves : (first : Bool) (pairs : List Pair) (m : BytesMap Pair) → AreNew (half (not first) pairs) (with_objects (half first pairs) m) → with_objects (half (not first) pairs) (with_objects (half first pairs) m) ≡ with_objects pairs m
halves first [] m new = refl
halves true (pair ∷ pairs) m new = halves false pairs (insert m (pair_id pair) pair) new
halves false (pair ∷ pairs) m new =
    let before = may_go_first (half true pairs) m (pair_id pair) pair new.0 in
    ap (with_objects (half false pairs)) before
    ∙ halves true pairs (insert m (pair_id pair) pair) (subst (AreNew (half false pairs)) before new.1)

one_less : (pairs : List Pair) (i : ℕ) (pair : Pair) → i < length pairs → pair ≡ get_or pairs i pair → drop i pairs ≡ pair ∷ drop (i + 1) pairs
one_less pairs i pair within is = rw (add-one, drop-cons pairs i pair, ← is) refl

-- an object that is in the half is kept, and the rest of the half is to be kept then
pub taken_kept : (flag : Bool) (pairs : List Pair) (i : ℕ) (pair : Pair) (m more : BytesMap Pair) → flag ≡ true → i < length pairs → pair ≡ get_or pairs i pair → more ≡ insert m (pair_id pair) pair
    → with_objects (half (not flag) (drop (i + 1) pairs)) more ≡ with_objects (half flag (drop i pairs)) m
taken_kept true pairs i pair m more taken within is added =
    ap (with_objects (half false (drop (i + 1) pairs))) added ∙ sym (ap (λ ps. with_objects (half true ps) m) (one_less pairs i pair within is))
taken_kept false pairs i pair m more taken within is added = absurd (false≢true taken)

pub taken_new : (flag : Bool) (pairs : List Pair) (i : ℕ) (pair : Pair) (m more : BytesMap Pair) → flag ≡ true → i < length pairs → pair ≡ get_or pairs i pair → more ≡ insert m (pair_id pair) pair → get m (pair_id pair) ≡ None
    → AreNew (half (not flag) (drop (i + 1) pairs)) more → AreNew (half flag (drop i pairs)) m
taken_new true pairs i pair m more taken within is added absent rest =
    subst (λ ps. AreNew (half true ps) m) (sym (one_less pairs i pair within is)) (absent, subst (AreNew (half false (drop (i + 1) pairs))) added rest)
taken_new false pairs i pair m more taken within is added absent rest = absurd (false≢true taken)

-- an object that is not in the half is passed over
pub passed : (flag : Bool) (pairs : List Pair) (i : ℕ) (pair : Pair) → flag ≡ false → i < length pairs → pair ≡ get_or pairs i pair → half (not flag) (drop (i + 1) pairs) ≡ half flag (drop i pairs)
passed false pairs i pair left within is = sym (ap (half false) (one_less pairs i pair within is))
passed true pairs i pair left within is = absurd (true≢false left)
