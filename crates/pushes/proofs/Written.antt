-- A push that is written, and ids in another order.
use Rattle.std.proofs.Common.{◌≡◌, ℕ, ◌<◌, ◌≤◌, ◌+◌, Bool, List, Some, length, sym, ap, subst, ◌∙◌, arith}
use Rattle.std.specs.Prelude.{IfErr, IfOk, Option, Result, Ok, Err}
use Rattle.std.specs.FinMap.{retain_keys, values}
use Rattle.std.specs.List.{flat_map}
use Rattle.std.specs.List.Sorted.{IsPermutation}
use Rattle.std.specs.Str.{bytes_eq}
use Rattle.std.proofs.lemmas.List.Sorted.{list_any-IsPermutation}
use Rattle.git_object.specs.Ids.{IsId}
use Rattle.git_object.specs.Objects.{Pair}
use Rattle.git_object.specs.Repository.{Repository}
use Rattle.rsl_chain.specs.declared.entries.Entry.{Entry}
use Rattle.pushes.specs.Pushes.{AreOwn, IsPush, entry_in, largest_push, own_record}
use Rattle.pushes.proofs.EntryLines.{entry_id}
use Rattle.pushes.specs.Needing.{has}
use Rattle.pushes.specs.Making.{AreFound, IsPushOf, IsWritten, StopsGathering, frame_len, kept_among}
use Rattle.pushes.specs.declared.make_faults.MakeFault.{MakeFault}
use Rattle.pushes.specs.declared.make_faults.MakeFault.TheVariants.{Broken, Missing, TooLarge, KeeperFailed, Memory}
use Rattle.pushes.proofs.Lengths.{push_len}

-- ---- ids in another order

same_has : (xs ys : List (List ℕ)) → IsPermutation xs ys → has xs ≡ has ys
same_has xs ys moved = λ i q. list_any-IsPermutation (λ (x : List ℕ). bytes_eq x q) xs ys moved i

module _ (xs ys : List (List ℕ)) (moved : IsPermutation xs ys) where
  those_moved : (r : Repository) (objects : List Pair) → objects ≡ kept_among r ys → objects ≡ kept_among r xs
  those_moved r objects is = is ∙ ap (λ (h : List ℕ → Bool). values (retain_keys r.objects h)) (sym (same_has xs ys moved))

  found_moved : (r : Repository) (objects : List Pair) → AreFound r ys objects → AreFound r xs objects
  found_moved r objects found = record { each = λ q among. found.each q (ap (λ (h : List ℕ → Bool). h q) (sym (same_has xs ys moved)) ∙ among) }

  stops_moved : (r : Repository) (fault : MakeFault) → StopsGathering r ys fault → StopsGathering r xs fault
  stops_moved r (Broken named) stops = stops
  stops_moved r (Missing missing) stops = (ap (λ (h : List ℕ → Bool). h missing) (same_has xs ys moved) ∙ stops.0, stops.1)
  stops_moved r TooLarge stops =
      subst (λ (h : List ℕ → Bool). largest_push < length (flat_map own_record (values (retain_keys r.objects h))) + frame_len)
      (sym (same_has xs ys moved)) stops
  stops_moved r KeeperFailed stops = tt
  stops_moved r Memory stops = tt

  -- and so of what gathering came to
  module _ (content : Option Repository) where
    pub those_of : (result : Result (List Pair) MakeFault) → IfOk result (λ objects. (r : Repository) → content ≡ Some r → objects ≡ kept_among r ys)
        → IfOk result (λ objects. (r : Repository) → content ≡ Some r → objects ≡ kept_among r xs)
    those_of (Ok objects) those = λ r told. those_moved r objects (those r told)
    those_of (Err fault) those = tt

    pub found_of : (result : Result (List Pair) MakeFault) → IfOk result (λ objects. (r : Repository) → content ≡ Some r → AreFound r ys objects)
        → IfOk result (λ objects. (r : Repository) → content ≡ Some r → AreFound r xs objects)
    found_of (Ok objects) found = λ r told. found_moved r objects (found r told)
    found_of (Err fault) found = tt

    pub stops_of : (result : Result (List Pair) MakeFault) → IfErr result (λ fault. (r : Repository) → content ≡ Some r → StopsGathering r ys fault)
        → IfErr result (λ fault. (r : Repository) → content ≡ Some r → StopsGathering r xs fault)
    stops_of (Ok objects) stops = tt
    stops_of (Err fault) stops = λ r told. stops_moved r fault (stops r told)

-- ---- the text

-- these objects and the entry that one of them is are a push
pub pushable : (objects : List Pair) (id : List ℕ) (entry : Entry) → IsId id → (es : List (List ℕ × Pair)) × AreOwn es objects
    → length (flat_map own_record objects) + frame_len ≤ largest_push → entry_in objects id ≡ Some entry
    → IsPush (record { entry = entry; objects = objects })
pushable objects id entry is_id (es, own) short found =
    let same : entry.id ≡ id = entry_id objects id entry found in
    let own_id : IsId entry.id = subst IsId (sym same) is_id in
    let len = push_len objects entry.id own_id in
    record {
      spelled = record { es = es; own = own; entry = ap (entry_in objects) same ∙ found; id = own_id };
      short = omega (arith, short, len);
    }

-- its text is that of a push of the entry of the id
is_push_of : (objects : List Pair) (id text : List ℕ) → IsWritten objects id text → IsPushOf id text
is_push_of objects id text w = record { push = record { entry = w.entry; objects = objects }; is = w.is; of_entry = entry_id objects id w.entry w.found }

pub push_of : (objects : List Pair) (id : List ℕ) (result : Result (List ℕ) MakeFault) → IfOk result (IsWritten objects id) → IfOk result (IsPushOf id)
push_of objects id (Ok text) written = is_push_of objects id text written
push_of objects id (Err fault) written = tt
