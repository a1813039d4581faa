use Rattle.std.proofs.Common.{◌≤◌, ℕ, List, subst, ap, sym, ◌∙◌}
use Rattle.std.specs.List.{All}
use Rattle.std.specs.Option.{IfSome}
use Rattle.recovery.specs.Lanes.{Lane, first_of, lane_of}
use Rattle.recovery.proofs.LaneLemmas.{lane_for, lanes_are}
use Rattle.recovery.proofs.RowReads.{slot_read}
use Rattle.recovery.proofs.marks.Marks.first_pending.Goals as goal

pub returns-clause-first : goal.returns-clause-first
returns-clause-first c =
    let rows = c.self.inside.rows.items in
    let slots = c.self.inside.slots.items in
    let found = sym c.slot_of.ensures ∙ c.in_ok-at.was in
    let within = c.self.invariant.named.within c.args.name.now c.in_ok-at.at found in
    let lane = ap (λ m. lane_of m c.args.name.now) (sym c.self.view_is) ∙ lanes_are rows slots c.self.inside.names c.args.name.now ∙ ap (lane_for rows slots) found in
    c.first.ensures.first
    ∙ ap first_of (slot_read (λ s. s.pending) slots c.in_ok-at.at c.index.result.now within c.index.ensures)
    ∙ ap (λ (l : Lane). first_of l.pending) (sym lane)

pub returns-clause-least : goal.returns-clause-least
returns-clause-least c =
    let rows = c.self.inside.rows.items in
    let slots = c.self.inside.slots.items in
    let found = sym c.slot_of.ensures ∙ c.in_ok-at.was in
    let within = c.self.invariant.named.within c.args.name.now c.in_ok-at.at found in
    let lane = ap (λ m. lane_of m c.args.name.now) (sym c.self.view_is) ∙ lanes_are rows slots c.self.inside.names c.args.name.now ∙ ap (lane_for rows slots) found in
    let P : List ℕ → Type 0 = λ ns. IfSome c.first.result (λ n. All (λ m. n ≤ m) ns) in
    subst P (slot_read (λ s. s.pending) slots c.in_ok-at.at c.index.result.now within c.index.ensures ∙ ap (λ (l : Lane). l.pending) (sym lane)) c.first.ensures.least

pub returns-in_err-at-clause-first : goal.returns-in_err-at-clause-first
returns-in_err-at-clause-first c =
    let rows = c.self.inside.rows.items in
    let slots = c.self.inside.slots.items in
    let found = sym c.slot_of.ensures ∙ c.in_err-at.was in
    let lane = ap (λ m. lane_of m c.args.name.now) (sym c.self.view_is) ∙ lanes_are rows slots c.self.inside.names c.args.name.now ∙ ap (lane_for rows slots) found in
    c.from_residual.ensures ∙ ap (λ (l : Lane). first_of l.pending) (sym lane)

pub returns-in_err-at-clause-least : goal.returns-in_err-at-clause-least
returns-in_err-at-clause-least c = rw c.from_residual.ensures tt
