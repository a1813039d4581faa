use Rattle.std.proofs.Common.{◌≡◌, ◌<◌, ℕ, length, refl, ap, sym, subst, ◌∙◌}
use Rattle.octets.specs.BytesMap.{by_bytes}
use Rattle.std.specs.BTreeMap as tree
use Rattle.std.specs.List.{All}
use Rattle.recovery.specs.Lanes.{Lane, is_in, lane_of}
use Rattle.recovery.specs.Rows.{no_row, row_at, slot_at}
use Rattle.recovery.specs.declared.rows.Row.{Row}
use Rattle.recovery.proofs.LaneLemmas.{lane_for, lanes_are}
use Rattle.recovery.proofs.RowReads.{in_numbers, no_lane_has, row_read, slot_read}
use Rattle.recovery.proofs.marks.Marks.name_of.Goals as goal

pub returns-in_err-at-clause-none : goal.returns-in_err-at-clause-none
returns-in_err-at-clause-none c =
    let rows = c.self.inside.rows.items in
    let slots = c.self.inside.slots.items in
    let none = c.in_err-at.ensures.none in
    rw c.from_residual.ensures (λ name.
    ap (λ m. is_in c.args.number (lane_of m name).pushed) (sym c.self.view_is)
    ∙ ap (λ (l : Lane). is_in c.args.number l.pushed) (lanes_are rows slots c.self.inside.names name)
    ∙ no_lane_has c.args.number rows slots (subst (λ xs. All (λ (r : Row). r.number ≡ c.args.number → ⊥) xs) c.as_slice.ensures.value none) (tree.get by_bytes c.self.inside.names name))

pub returns-clause-found : goal.returns-clause-found
returns-clause-found c =
    let rows = c.self.inside.rows.items in
    let slots = c.self.inside.slots.items in
    let at = c.in_ok-at.at in
    let found = c.in_ok-at.ensures.found in
    let within : at < length rows = subst (λ xs. at < length xs) c.as_slice.ensures.value found.0 in
    let number : (row_at rows at).number ≡ c.args.number = ap (λ xs. (row_at xs at).number) (sym c.as_slice.ensures.value) ∙ found.1 in
    let k = (row_at rows at).slot in
    let same_k : c.index.result.now.slot ≡ k = row_read (λ r. r.slot) rows at c.index.result.now within c.index.ensures in
    let of_slot = c.self.invariant.kept.slotted at no_row within in
    let name : c.index-2.result.now.name ≡ (slot_at slots k).name =
    slot_read (λ s. s.name) slots c.index.result.now.slot c.index-2.result.now (subst (λ (i : ℕ). i < length slots) (sym same_k) of_slot) c.index-2.ensures ∙ ap (λ i. (slot_at slots i).name) same_k in
    ap (λ m. is_in c.args.number (lane_of m c.index-2.result.now.name).pushed) (sym c.self.view_is)
    ∙ ap (λ (l : Lane). is_in c.args.number l.pushed) (lanes_are rows slots c.self.inside.names c.index-2.result.now.name ∙ ap (λ n. lane_for rows slots (tree.get by_bytes c.self.inside.names n)) name ∙ ap (lane_for rows slots) (c.self.invariant.named.known k of_slot))
    ∙ in_numbers c.args.number k rows at within refl number
