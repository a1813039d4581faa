-- Entries inserted in order.
use Rattle.std.proofs.Common.{◌≡◌, ◌+◌, ◌<◌, ℕ, List, [], ◌∷◌, ◌++◌, get_or, length, map, take, refl, sym, ap, ◌∙◌}
use Rattle.std.proofs.lemmas.List.{take_more}
use Rattle.std.specs.FinMap.{insert}
use Rattle.octets.specs.BytesMap.{BytesMap}
use Rattle.git_object.specs.Objects.{Pair, pair_id}
use Rattle.keeper_api.specs.Changes.{with_objects}
use Rattle.keeper_api.specs.Trees.{with_entries}

-- to keep objects is to insert each at its own id
pub with_objects_entries : (pairs : List Pair) (m : BytesMap Pair) → with_entries (map (λ pair. (pair_id pair, pair)) pairs) m ≡ with_objects pairs m
with_objects_entries [] m = refl
with_objects_entries (pair ∷ pairs) m = with_objects_entries pairs (insert m (pair_id pair) pair)

with_objects_push : (pairs : List Pair) (pair : Pair) (m : BytesMap Pair) → with_objects (pairs ++ pair ∷ []) m ≡ insert (with_objects pairs m) (pair_id pair) pair
with_objects_push [] pair m = refl
with_objects_push (p ∷ pairs) pair m = with_objects_push pairs pair (insert m (pair_id p) p)

-- one object more of those that are gone through is kept
pub one_more_object : (pairs : List Pair) (i : ℕ) (pair : Pair) (m kept more : BytesMap Pair) → i < length pairs → pair ≡ get_or pairs i pair → more ≡ insert kept (pair_id pair) pair
    → kept ≡ with_objects (take i pairs) m → more ≡ with_objects (take (i + 1) pairs) m
one_more_object pairs i pair m kept more within is added before =
    let split : take (i + 1) pairs ≡ take i pairs ++ pair ∷ [] = take_more pairs i pair within ∙ ap (λ (p : Pair). take i pairs ++ p ∷ []) (sym is) in
    added ∙ ap (λ (k : BytesMap Pair). insert k (pair_id pair) pair) before ∙ sym (with_objects_push (take i pairs) pair m) ∙ ap (λ (ps : List Pair). with_objects ps m) (sym split)
