use Rattle.std.proofs.Common.{◌≡◌, ◌<◌, ℕ, List, length, set, ap, sym, subst, ◌∙◌, arith}
use Rattle.std.proofs.lemmas.List.{get_or_read}
use Rattle.recovery.specs.Rows.{IsAfter, IsLast, no_row, no_slot, row_at, slot_at}
use Rattle.recovery.specs.Steps.{ending_at, skipped_row}
use Rattle.recovery.specs.declared.rows.Row.{Row}
use Rattle.recovery.specs.declared.slots.Slot.{Slot}
use Rattle.recovery.proofs.RowLemmas.{after_kept, kept_set}
use Rattle.recovery.proofs.slots.skip_at.Goals as goal

pub returns : goal.returns
returns c =
    let rows : List Row = c.args.rows.now.items in
    let slots : List Slot = c.args.slots.now.items in
    let at = c.args.at in
    let within : at < length rows = omega arith in
    let row : c.index_mut-row.result.now ≡ row_at rows at = get_or_read rows at c.index_mut-row.result.now within c.index_mut-row.ensures.value no_row in
    let k = (row_at rows at).slot in
    let of_slot : k < length slots = c.requires.rows.slotted at no_row within in
    let same_k : c.index_mut-row.result.now.slot ≡ k = ap (λ r. r.slot) row in
    let slot : c.index_mut-slot.result.now ≡ slot_at slots k = get_or_read slots c.index_mut-row.result.now.slot c.index_mut-slot.result.now (subst (λ (i : ℕ). i < length slots) (sym same_k) of_slot) c.index_mut-slot.ensures.value no_slot ∙ ap (slot_at slots) same_k in
    let now : List Row = set rows at (skipped_row (row_at rows at)) in
    let seen : c.as_slice.result.now ≡ now = c.as_slice.ensures.value ∙ ap (λ r. set rows at (skipped_row r)) row in
    let after : IsAfter k rows (length rows) (slot_at slots k).last = (c.requires.rows.stand k of_slot).last.after in
    let kept = kept_set rows at within in
    let after_now : IsAfter k now (length now) (slot_at slots k).last = subst (λ (n : ℕ). IsAfter k now n (slot_at slots k).last) (sym kept.long) (after_kept rows now k (length rows) (slot_at slots k).last kept after) in
    let asked : IsAfter k c.as_slice.result.now (length c.as_slice.result.now) c.index_mut-slot.result.now.last = subst (λ (xs : List Row). IsAfter k xs (length xs) c.index_mut-slot.result.now.last) (sym seen) (subst (λ (l : ℕ). IsAfter k now (length now) l) (sym (ap (λ s. s.last) slot)) after_now) in
    let answered : IsLast k c.as_slice.result.now c.last_unskipped-slot.result = c.last_unskipped-slot.ensures k asked in
    record {
      last = c.last_unskipped-slot.result;
      row = ap (λ r. set rows at (skipped_row r)) row;
      slot = (λ i. set slots (same_k i) (ending_at c.last_unskipped-slot.result (slot i)));
      is_last = subst (λ (xs : List Row). IsLast k xs c.last_unskipped-slot.result) (seen ∙ sym (ap (λ r. set rows at (skipped_row r)) row)) answered;
    }
