-- What rows, slots and names have to do with one another.
use Rattle.std.specs.Prelude.{◌≡◌, ◌<◌, ℕ, List, length, map, Some}
use Rattle.std.specs.BTreeMap as tree
use Rattle.std.specs.BTreeMap.{BTreeMap}
use Rattle.std.specs.FinMap.{from_entries}
use Rattle.std.specs.List.{All, AllPairs}
use Rattle.octets.specs.BytesMap.{BytesMap, by_bytes}
use Rattle.recovery.specs.Lanes.{Lane}
use Rattle.recovery.specs.Rows.{Linked, IsLast, lane_at, numbers_at, slot_at}
use Rattle.recovery.specs.declared.rows.Row.{Row}
use Rattle.recovery.specs.declared.slots.Slot.{Slot}

-- the slot stands for its rows; what is above all rows is above all that is pending
pub record IsSlot (rows : List Row) (k : ℕ) (slot : Slot) : Type 0 where
  pub last : IsLast k rows slot.last
  pub count : slot.count ≡ length (numbers_at k rows)
  pub pending : (top : ℕ) → All (λ r. r.number < top) rows → All (λ n. n < top) slot.pending

-- the rows rise, and each stands with its slot
pub record AreRows (rows : List Row) (slots : List Slot) : Type 0 where
  pub rising : AllPairs (λ r s. r.number < s.number) rows
  pub slotted : All (λ r. r.slot < length slots) rows
  pub linked : Linked rows
  pub stand : (k : ℕ) → k < length slots → IsSlot rows k (slot_at slots k)

-- each slot has one name, and each name one slot
pub record AreNames (slots : List Slot) (names : BTreeMap (List ℕ) ℕ) : Type 0 where
  pub within : (q : List ℕ) (k : ℕ) → tree.get by_bytes names q ≡ Some k → k < length slots
  pub named : (q : List ℕ) (k : ℕ) → tree.get by_bytes names q ≡ Some k → (slot_at slots k).name ≡ q
  pub known : (k : ℕ) → k < length slots → tree.get by_bytes names (slot_at slots k).name ≡ Some k

pub record IsMarked (rows : List Row) (slots : List Slot) (names : BTreeMap (List ℕ) ℕ) : Type 0 where
  pub kept : AreRows rows slots
  pub named : AreNames slots names

-- the map from names to what is kept of their slots
abbrev pub lanes : List Row → List Slot → BTreeMap (List ℕ) ℕ → BytesMap Lane
lanes rows slots names = from_entries (map (λ e. (e.0, lane_at rows slots e.1)) names.entries)
