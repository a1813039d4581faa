-- What stands at an id once some of the objects are put.
use Rattle.std.proofs.Common.{◌≡◌, ◌+◌, ◌<◌, ℕ, Bool, true, false, cond, List, get_or, length, take, Option, Some, refl, sym, ap, ◌∙◌}
use Rattle.std.specs.Prelude.{option_and_then, slice_get}
use Rattle.std.specs.BTreeMap as tree
use Rattle.std.specs.FinMap.{get, get-insert, insert}
use Rattle.std.specs.Cmp.{eq_by_cmp_equiv}
use Rattle.std.specs.Cmp.Lexicographic.{nat_list_cmp_total}
use Rattle.std.specs.Ordering.{is_eq}
use Rattle.std.specs.Str.{bytes_eq}
use Rattle.std.specs.declared.cmp.Ordering.{Ordering}
use Rattle.std.specs.declared.cmp.Ordering.TheVariants.{Less, Equal, Greater}
use Rattle.std.proofs.lemmas.Bool.{true≢false}
use Rattle.std.proofs.lemmas.Option.{slice_get_read}
use Rattle.std.proofs.lemmas.Slice.Eq.{bytes_eq-Decides}
use Rattle.octets.specs.BytesMap.{BytesMap, by_bytes}
use Rattle.git_object.specs.Objects.{Pair, pair_id}
use Rattle.keeper_api.specs.Changes.{with_objects}
use Rattle.keeper_api.proofs.Inserting.{one_more_object}
use Rattle.keeper_api.proofs.Trees.{exact_bytes}
use Rattle.keeper_layers.specs.Overlaying.{FindsLast, shown}

module _ (pairs : List Pair) (i : ℕ) (pair : Pair) (id : List ℕ) (m : BytesMap Pair) (within : i < length pairs) (here : pair ≡ get_or pairs i pair) where
  one_more : with_objects (take (i + 1) pairs) m ≡ insert (with_objects (take i pairs) m) (pair_id pair) pair
  one_more = sym (one_more_object pairs i pair m (with_objects (take i pairs) m) (insert (with_objects (take i pairs) m) (pair_id pair) pair) within here refl refl)

  after_one : get (with_objects (take (i + 1) pairs) m) id ≡ cond (is_eq (by_bytes id (pair_id pair))) (Some pair) (get (with_objects (take i pairs) m) id)
  after_one = ap (λ (n : BytesMap Pair). get n id) one_more ∙ get-insert nat_list_cmp_total (with_objects (take i pairs) m) (pair_id pair) pair id

  found_here : pair_id pair ≡ id → get (with_objects (take (i + 1) pairs) m) id ≡ Some pair
  found_here same = after_one ∙ ap (λ (b : Bool). cond b (Some pair) (get (with_objects (take i pairs) m) id))
      (ap (λ (k : List ℕ). is_eq (by_bytes id k)) same ∙ (eq_by_cmp_equiv nat_list_cmp_total).refl id)

  found_before : (pair_id pair ≡ id → ⊥) → get (with_objects (take (i + 1) pairs) m) id ≡ get (with_objects (take i pairs) m) id
  found_before other = after_one ∙ by_order (by_bytes id (pair_id pair)) refl where
    by_order : (o : Ordering) → by_bytes id (pair_id pair) ≡ o → cond (is_eq o) (Some pair) (get (with_objects (take i pairs) m) id) ≡ get (with_objects (take i pairs) m) id
    by_order Less is = refl
    by_order Greater is = refl
    by_order Equal is = absurd (other (sym (exact_bytes id (pair_id pair) is)))

  next_found : (found next : Option Pair) → get (with_objects (take i pairs) m) id ≡ shown found (get m id)
      → next ≡ cond (bytes_eq (pair_id pair) id) (Some pair) found → get (with_objects (take (i + 1) pairs) m) id ≡ shown next (get m id)
  next_found found next before is = by_test (bytes_eq (pair_id pair) id) refl is where
    by_test : (b : Bool) → bytes_eq (pair_id pair) id ≡ b → next ≡ cond b (Some pair) found → get (with_objects (take (i + 1) pairs) m) id ≡ shown next (get m id)
    by_test true e is = found_here ((bytes_eq-Decides (pair_id pair) id).0 e) ∙ sym (ap (λ (x : Option Pair). shown x (get m id)) is)
    by_test false e is =
        found_before (λ same. true≢false (sym ((bytes_eq-Decides (pair_id pair) id).1 same) ∙ e)) ∙ before
        ∙ sym (ap (λ (x : Option Pair). shown x (get m id)) is)

-- the object at the place that was put, or the one before
placed : (pairs : List Pair) (i : ℕ) (pair : Pair) (id : List ℕ) (had : Option ℕ) → slice_get pairs i ≡ Some pair
    → option_and_then (slice_get pairs) (cond (is_eq (by_bytes (pair_id pair) id)) (Some i) had)
    ≡ cond (bytes_eq (pair_id pair) id) (Some pair) (option_and_then (slice_get pairs) had)
placed pairs i pair id had here = by_test (bytes_eq (pair_id pair) id) refl where
  by_test : (b : Bool) → bytes_eq (pair_id pair) id ≡ b → option_and_then (slice_get pairs) (cond (is_eq (by_bytes (pair_id pair) id)) (Some i) had)
      ≡ cond b (Some pair) (option_and_then (slice_get pairs) had)
  by_test true e =
      ap (λ (b : Bool). option_and_then (slice_get pairs) (cond b (Some i) had))
      (ap (λ (k : List ℕ). is_eq (by_bytes (pair_id pair) k)) (sym ((bytes_eq-Decides (pair_id pair) id).0 e))
      ∙ (eq_by_cmp_equiv nat_list_cmp_total).refl (pair_id pair)) ∙ here
  by_test false e = by_order (by_bytes (pair_id pair) id) refl where
    by_order : (o : Ordering) → by_bytes (pair_id pair) id ≡ o → option_and_then (slice_get pairs) (cond (is_eq o) (Some i) had) ≡ option_and_then (slice_get pairs) had
    by_order Less is = refl
    by_order Greater is = refl
    by_order Equal is = absurd (true≢false (sym ((bytes_eq-Decides (pair_id pair) id).1 (exact_bytes (pair_id pair) id is)) ∙ e))

-- one place more
pub place_put : (pairs : List Pair) (i : ℕ) (pair : Pair) (was now : tree.BTreeMap (List ℕ) ℕ) → i < length pairs → pair ≡ get_or pairs i pair
    → ((id : List ℕ) → FindsLast (take i pairs) id (option_and_then (slice_get pairs) (tree.get by_bytes was id)))
    → ((id : List ℕ) → tree.get by_bytes now id ≡ cond (is_eq (by_bytes (pair_id pair) id)) (Some i) (tree.get by_bytes was id))
    → (id : List ℕ) → FindsLast (take (i + 1) pairs) id (option_and_then (slice_get pairs) (tree.get by_bytes now id))
place_put pairs i pair was now within here before put id kept =
    next_found pairs i pair id kept within here (option_and_then (slice_get pairs) (tree.get by_bytes was id))
    (option_and_then (slice_get pairs) (tree.get by_bytes now id)) (before id kept)
    (ap (option_and_then (slice_get pairs)) (put id)
    ∙ placed pairs i pair id (tree.get by_bytes was id) (slice_get_read pairs (length pairs) i pair refl within here))
