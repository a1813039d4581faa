-- What the steps of a call make of rows, slots and names.
use Rattle.std.specs.Prelude.{◌≡◌, ◌≢◌, ◌⊎◌, ◌<◌, ◌+◌, ◌++◌, ℕ, Bool, true, false, List, [], ◌∷◌, Some, None, length}
use Rattle.std.specs.Prelude.{if◌then◌else◌, slice_set}
use Rattle.std.specs.BTreeMap as tree
use Rattle.std.specs.BTreeMap.{BTreeMap}
use Rattle.std.specs.List.{All, filter}
use Rattle.std.specs.Ordering.{is_eq}
use Rattle.octets.specs.BytesMap.{by_bytes}
use Rattle.recovery.specs.Lanes.{is_outside}
use Rattle.recovery.specs.Rows.{IsLast, row_at, slot_at}
use Rattle.recovery.specs.declared.rows.Row.{Row}
use Rattle.recovery.specs.declared.slots.Slot.{Slot}

-- the slot of a name that has no number yet
abbrev pub fresh_slot : List ℕ → Slot
fresh_slot name = record { name = name; last = 0; count = 0; pending = [] }

-- a name without a slot is given the next one
pub record IsFresh (slots : List Slot) (names : BTreeMap (List ℕ) ℕ) (name : List ℕ) (slots_now : List Slot)
    (names_now : BTreeMap (List ℕ) ℕ) (k : ℕ) : Type 0 where
  pub none : tree.get by_bytes names name ≡ None
  pub next : k ≡ length slots
  pub more : slots_now ≡ slots ++ fresh_slot name ∷ []
  pub put : (q : List ℕ) → tree.get by_bytes names_now q
      ≡ (if is_eq (by_bytes name q) then Some k else tree.get by_bytes names q)

-- a name that has a slot keeps it
pub record IsKnown (slots : List Slot) (names : BTreeMap (List ℕ) ℕ) (name : List ℕ) (slots_now : List Slot)
    (names_now : BTreeMap (List ℕ) ℕ) (k : ℕ) : Type 0 where
  pub some : tree.get by_bytes names name ≡ Some k
  pub same : slots_now ≡ slots
  pub entries : names_now.entries ≡ names.entries

abbrev pub IsOpened : List Slot → BTreeMap (List ℕ) ℕ → List ℕ → List Slot → BTreeMap (List ℕ) ℕ → ℕ → Type 0
IsOpened slots names name slots_now names_now k =
    IsKnown slots names name slots_now names_now k ⊎ IsFresh slots names name slots_now names_now k

-- the row of a number of a slot
abbrev pub pushed_row : ℕ → ℕ → Slot → Row
pushed_row k number slot = record { number = number; slot = k; back = slot.last; skipped = false }

-- the slot after a number, of which there were so many rows before
abbrev pub pushed_slot : ℕ → ℕ → Bool → Slot → Slot
pushed_slot rows number pending slot = record {
  name = slot.name;
  last = rows + 1;
  count = slot.count + 1;
  pending = (if pending then slot.pending ++ number ∷ [] else slot.pending);
}

abbrev pub skipped_row : Row → Row
skipped_row row = record { number = row.number; slot = row.slot; back = row.back; skipped = true }

abbrev pub ending_at : ℕ → Slot → Slot
ending_at last slot = record { name = slot.name; last = last; count = slot.count; pending = slot.pending }

abbrev pub fixed_slot : ℕ → ℕ → Slot → Slot
fixed_slot above below slot = record {
  name = slot.name;
  last = slot.last;
  count = slot.count;
  pending = filter (is_outside above below) slot.pending;
}

-- the row at a place is skipped, and its slot ends where it then ends
pub record SkipsAt (at : ℕ) (rows : List Row) (slots : List Slot) (rows_now : List Row) (slots_now : List Slot) : Type 0
  where
    pub last : ℕ
    pub row : rows_now ≡ slice_set rows at (skipped_row (row_at rows at))
    pub slot : slots_now ≡ slice_set slots (row_at rows at).slot (ending_at last (slot_at slots (row_at rows at).slot))
    pub is_last : IsLast (row_at rows at).slot rows_now last

-- no row has the number, and nothing changes
pub record SkipsNone (number : ℕ) (rows : List Row) (slots : List Slot) (rows_now : List Row)
    (slots_now : List Slot) : Type 0 where
  pub none : All (λ r. r.number ≢ number) rows
  pub row : rows_now ≡ rows
  pub slot : slots_now ≡ slots

-- the row of the number is skipped, where there is one
abbrev pub Skips : ℕ → List Row → List Slot → List Row → List Slot → Type 0
Skips number rows slots rows_now slots_now =
    SkipsNone number rows slots rows_now slots_now
    ⊎ ((at : ℕ) × (at < length rows) × ((row_at rows at).number ≡ number) × SkipsAt at rows slots rows_now slots_now)
