-- One row for each number, in the order of the numbers, and one slot for each name.
use Rattle.std.specs.Prelude.{◌≡◌, ◌==◌, ◌&&◌, ◌<◌, ◌≤◌, ◌-◌, ℕ, true, false, not, List, [], length, map}
use Rattle.std.specs.Prelude.{slice_index_or}
use Rattle.std.specs.List.{filter}
use Rattle.recovery.specs.Lanes.{Lane}
use Rattle.recovery.specs.declared.rows.Row.{Row}
use Rattle.recovery.specs.declared.slots.Slot.{Slot}

abbrev pub no_row : Row
no_row = record { number = 0; slot = 0; back = 0; skipped = false }

abbrev pub no_slot : Slot
no_slot = record { name = []; last = 0; count = 0; pending = [] }

abbrev pub row_at : List Row → ℕ → Row
row_at rows i = slice_index_or rows i no_row

abbrev pub slot_at : List Slot → ℕ → Slot
slot_at slots k = slice_index_or slots k no_slot

-- the numbers of a slot
abbrev pub numbers_at : ℕ → List Row → List ℕ
numbers_at slot rows = map (λ r. r.number) (filter (λ r. r.slot == slot) rows)

-- those that are not skipped
abbrev pub unskipped_at : ℕ → List Row → List ℕ
unskipped_at slot rows = map (λ r. r.number) (filter (λ r. r.slot == slot && not r.skipped) rows)

-- what is kept of a slot
abbrev pub lane_at : List Row → List Slot → ℕ → Lane
lane_at rows slots k = record {
  pushed = numbers_at k rows;
  unskipped = unskipped_at k rows;
  pending = (slot_at slots k).pending;
}

-- the place right after one of the slot's rows, or 0, behind which all of them (below `to`) are skipped
pub record IsAfter (slot : ℕ) (rows : List Row) (to last : ℕ) : Type 0 where
  pub within : last ≤ to
  pub own : 0 < last → (row_at rows (last - 1)).slot ≡ slot
  pub behind : (i : ℕ) → last ≤ i → i < to → (row_at rows i).slot ≡ slot → (row_at rows i).skipped ≡ true

-- each row knows such a place before it
abbrev pub Linked : List Row → Type 0
Linked rows = (i : ℕ) → i < length rows → IsAfter (row_at rows i).slot rows i (row_at rows i).back

-- the place right after the last row of the slot that is not skipped, or 0
pub record IsLast (slot : ℕ) (rows : List Row) (last : ℕ) : Type 0 where
  pub after : IsAfter slot rows (length rows) last
  pub unskipped : 0 < last → (row_at rows (last - 1)).skipped ≡ false
