-- What stands at an id after objects were put.
use Rattle.std.proofs.Common.{◌≡◌, ◌+◌, ◌<◌, ◌≤◌, ℕ, Bool, true, false, cond, not, ◌&&◌, List, [], ◌∷◌, ◌++◌, get_or, length, take, Option, Some, None, refl, sym, ap, subst, ◌∙◌}
use Rattle.std.specs.Prelude.{IfNone, IfSome, nat_le, option_and_then}
use Rattle.std.specs.FinMap.{get, get-insert, insert}
use Rattle.std.proofs.lemmas.Cmp.{eq_by_cmp_equiv, nat_list_cmp_total}
use Rattle.std.specs.List.{AllByRecursion}
use Rattle.std.specs.Ordering.{is_eq, ordering_reverse}
use Rattle.std.specs.Str.{bytes_eq}
use Rattle.std.proofs.lemmas.Slice.Eq.{bytes_eq-Decides}
use Rattle.std.proofs.lemmas.Bool.{and_parts, leb-true, true≢false}
use Rattle.std.specs.declared.cmp.Ordering.{Ordering}
use Rattle.std.specs.declared.cmp.Ordering.TheVariants.{Less, Equal, Greater}
use Rattle.std.proofs.lemmas.List.{take_more}
use Rattle.octets.specs.BytesMap.{BytesMap, by_bytes}
use Rattle.git_object.proofs.ObjectAt.{object_none, object_there}
use Rattle.git_object.proofs.Runs.{all_push}
use Rattle.git_object.specs.Objects.{Pair, pair_id}
use Rattle.git_object.specs.Repository.{HasObject, IsObject, Repository, if_own, largest_body, object_at, own_pair}
use Rattle.keeper_api.specs.Changes.{changed, with_objects}
use Rattle.keeper_api.specs.declared.changes.Change.{Change}
use Rattle.keeper_api.proofs.Inserting.{one_more_object}
use Rattle.keeper_api.proofs.Trees.{exact_bytes}
use Rattle.keeper_api.specs.Growing.{AreNew, ClashesNowhere, HasAll, Larger, NoneClashAmong, NoneClashes}

abbrev own_in : BytesMap Pair → List ℕ → Option Pair
own_in m id = option_and_then (own_pair id) (get m id)

if_same : (b : Bool) (p q : Pair) → if_own b p ≡ Some q → p ≡ q
if_same true p q e = let same : Some p ≡ Some q = e in cc
if_same false p q e = let bad : None ≡ Some q = e in cc

own_self : (id : List ℕ) (kept : Pair) (got : Option Pair) → option_and_then (own_pair id) got ≡ Some kept → own_pair id kept ≡ Some kept
own_self id kept None e = let bad : None ≡ Some kept = e in cc
own_self id kept (Some p) e = ap (own_pair id) (sym (if_same _ p kept e)) ∙ e

put_one : (m : BytesMap Pair) (pair : Pair) (id : List ℕ) (kept : Pair) → own_in m id ≡ Some kept → (pair_id pair ≡ id → pair ≡ kept) → own_in (insert m (pair_id pair) pair) id ≡ Some kept
put_one m pair id kept own same = ap (option_and_then (own_pair id)) (get-insert nat_list_cmp_total m (pair_id pair) pair id) ∙ by_order (by_bytes id (pair_id pair)) refl where
  by_order : (o : Ordering) → by_bytes id (pair_id pair) ≡ o → option_and_then (own_pair id) (cond (is_eq o) (Some pair) (get m id)) ≡ Some kept
  by_order Less is = own
  by_order Greater is = own
  by_order Equal is = ap (own_pair id) (same (sym (exact_bytes id (pair_id pair) is))) ∙ own_self id kept (get m id) own

put_all : (pairs : List Pair) (m : BytesMap Pair) (id : List ℕ) (kept : Pair) → own_in m id ≡ Some kept → AllByRecursion (λ pair. pair_id pair ≡ id → pair ≡ kept) pairs → own_in (with_objects pairs m) id ≡ Some kept
put_all [] m id kept own all = own
put_all (pair ∷ pairs) m id kept own all = put_all pairs (insert m (pair_id pair) pair) id kept (put_one m pair id kept own all.0) all.1

at_one : (r : Repository) (pairs : List Pair) (id : List ℕ) (kept : Pair) → object_at r id ≡ Some kept → NoneClashes pairs r → AllByRecursion (λ pair. pair_id pair ≡ id → pair ≡ kept) pairs
at_one r [] id kept own none = tt
at_one r (pair ∷ pairs) id kept own none = (none.0 id kept own, at_one r pairs id kept own none.1)

pub grows : (change : Change) (r : Repository) → NoneClashes change.objects r → Larger r (changed change r)
grows change r none id kept own = put_all change.objects r.objects id kept own (at_one r change.objects id kept own none)

-- ---- the objects of the change

got_one : (m : BytesMap Pair) (new : Pair) (pair : Pair) → get m (pair_id pair) ≡ Some pair → (pair_id new ≡ pair_id pair → new ≡ pair)
    → get (insert m (pair_id new) new) (pair_id pair) ≡ Some pair
got_one m new pair had same = get-insert nat_list_cmp_total m (pair_id new) new (pair_id pair) ∙ by_order (by_bytes (pair_id pair) (pair_id new)) refl where
  by_order : (o : Ordering) → by_bytes (pair_id pair) (pair_id new) ≡ o → cond (is_eq o) (Some new) (get m (pair_id pair)) ≡ Some pair
  by_order Less is = had
  by_order Greater is = had
  by_order Equal is = ap Some (same (sym (exact_bytes (pair_id pair) (pair_id new) is)))

got_all : (pairs : List Pair) (m : BytesMap Pair) (pair : Pair) → get m (pair_id pair) ≡ Some pair
    → AllByRecursion (λ other. pair_id other ≡ pair_id pair → other ≡ pair) pairs → get (with_objects pairs m) (pair_id pair) ≡ Some pair
got_all [] m pair had same = had
got_all (new ∷ pairs) m pair had same = got_all pairs (insert m (pair_id new) new) pair (got_one m new pair had same.0) same.1

by_reverse : (o : Ordering) → o ≡ ordering_reverse o → o ≡ Equal
by_reverse Less e = cc
by_reverse Greater e = cc
by_reverse Equal e = refl

same_bytes : (x : List ℕ) → by_bytes x x ≡ Equal
same_bytes x = by_reverse (by_bytes x x) (nat_list_cmp_total.antisymm x x)

got_own : (m : BytesMap Pair) (pair : Pair) → get (insert m (pair_id pair) pair) (pair_id pair) ≡ Some pair
got_own m pair = get-insert nat_list_cmp_total m (pair_id pair) pair (pair_id pair)
    ∙ ap (λ (b : Bool). cond b (Some pair) (get m (pair_id pair))) (ap is_eq (same_bytes (pair_id pair)))

among_rest : (first : Pair) (pairs rest : List Pair)
    → AllByRecursion (λ pair. AllByRecursion (λ other. pair_id other ≡ pair_id pair → other ≡ pair) (first ∷ rest)) pairs
    → AllByRecursion (λ pair. AllByRecursion (λ other. pair_id other ≡ pair_id pair → other ≡ pair) rest) pairs
among_rest first [] rest all = tt
among_rest first (pair ∷ pairs) rest all = (all.0.1, among_rest first pairs rest all.1)

own_all : (pairs : List Pair) (m : BytesMap Pair) → NoneClashAmong pairs → AllByRecursion (λ pair. get (with_objects pairs m) (pair_id pair) ≡ Some pair) pairs
own_all [] m among = tt
own_all (pair ∷ pairs) m among = (
  got_all pairs (insert m (pair_id pair) pair) pair (got_own m pair) among.0.1,
  own_all pairs (insert m (pair_id pair) pair) (among_rest pair pairs pairs among.1),
)

has_all : (r : Repository) (pairs : List Pair) → AllByRecursion (λ pair. get r.objects (pair_id pair) ≡ Some pair) pairs
    → AllByRecursion (λ pair. length pair.body ≤ largest_body) pairs → HasAll r pairs
has_all r [] got small = tt
has_all r (pair ∷ pairs) got small = (record { kept = got.0; is = record { own = refl; small = small.0 } }, has_all r pairs got.1 small.1)

pub stays : (change : Change) (r : Repository) → AreNew change.objects r → HasAll (changed change r) change.objects
stays change r new = has_all (changed change r) change.objects (own_all change.objects r.objects new.among) new.small

-- ---- what an id leads to is there

own_is : (id : List ℕ) (pair kept : Pair) (b : Bool) → (bytes_eq (pair_id pair) id && nat_le (length pair.body) largest_body) ≡ b → if_own b pair ≡ Some kept
    → IsObject id pair × (pair ≡ kept)
own_is id pair kept true test e =
    let parts = and_parts (bytes_eq (pair_id pair) id) (nat_le (length pair.body) largest_body) test in
    (record { own = (bytes_eq-Decides (pair_id pair) id).0 parts.0; small = leb-true (length pair.body) largest_body parts.1 }, if_same true pair kept e)
own_is id pair kept false test e = let bad : None ≡ Some kept = e in cc

pub has_there : (r : Repository) (id : List ℕ) (kept : Pair) → object_at r id ≡ Some kept → HasObject r id kept
has_there r id kept e = by_found (get r.objects id) refl e where
  by_found : (found : Option Pair) → get r.objects id ≡ found → option_and_then (own_pair id) found ≡ Some kept → HasObject r id kept
  by_found None is e = let bad : None ≡ Some kept = e in cc
  by_found (Some pair) is e =
      let own = own_is id pair kept (bytes_eq (pair_id pair) id && nat_le (length pair.body) largest_body) refl e in
      record { kept = is ∙ ap Some own.1; is = subst (IsObject id) own.1 own.0 }
