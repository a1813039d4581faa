use Rattle.std.proofs.Common.{ap, sym, ◌∙◌}
use Rattle.recovery.specs.Lanes.{Lane, is_in, lane_of}
use Rattle.recovery.proofs.LaneLemmas.{lane_for, lanes_are}
use Rattle.recovery.proofs.RowReads.{slot_read}
use Rattle.recovery.proofs.marks.Marks.is_pending.Goals as goal

pub returns-in-Some : goal.returns-in-Some
returns-in-Some c =
    let rows = c.self.inside.rows.items in
    let slots = c.self.inside.slots.items in
    let found = sym c.slot_of.ensures ∙ c.in-Some.is in
    let within = c.self.invariant.named.within c.args.name.now c.in-Some.at found in
    let lane = ap (λ m. lane_of m c.args.name.now) (sym c.self.view_is) ∙ lanes_are rows slots c.self.inside.names c.args.name.now ∙ ap (lane_for rows slots) found in
    c.has.ensures
    ∙ ap (is_in c.args.number) (slot_read (λ s. s.pending) slots c.in-Some.at c.index.result.now within c.index.ensures)
    ∙ ap (λ (l : Lane). is_in c.args.number l.pending) (sym lane)

pub returns-in-None : goal.returns-in-None
returns-in-None c =
    let rows = c.self.inside.rows.items in
    let slots = c.self.inside.slots.items in
    let found = sym c.slot_of.ensures ∙ c.in-None.is in
    let lane = ap (λ m. lane_of m c.args.name.now) (sym c.self.view_is) ∙ lanes_are rows slots c.self.inside.names c.args.name.now ∙ ap (lane_for rows slots) found in
    ap (λ (l : Lane). is_in c.args.number l.pending) (sym lane)
