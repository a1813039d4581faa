use Rattle.std.proofs.Common.{◌==◌, ◌≤◌, ◌-◌, ℕ, List, Option, subst, cond, Some, None, ap, sym, ◌∙◌}
use Rattle.recovery.specs.Lanes.{Lane, last_of, lane_of}
use Rattle.std.specs.List.{All}
use Rattle.std.specs.Option.{IfSome}
use Rattle.recovery.specs.Rows.{row_at, slot_at, unskipped_at}
use Rattle.recovery.proofs.Cuts.{greatest_last}
use Rattle.recovery.proofs.LaneLemmas.{lane_for, lanes_are}
use Rattle.recovery.proofs.RowReads.{last_is, slot_read, unskipped_rising}
use Rattle.recovery.proofs.marks.Marks.prior.Goals as goal

pub returns-clause-last : goal.returns-clause-last
returns-clause-last c =
    let rows = c.self.inside.rows.items in
    let slots = c.self.inside.slots.items in
    let found = sym c.slot_of.ensures ∙ c.in_ok-at.was in
    let within = c.self.invariant.named.within c.args.name.now c.in_ok-at.at found in
    let lane = ap (λ m. lane_of m c.args.name.now) (sym c.self.view_is) ∙ lanes_are rows slots c.self.inside.names c.args.name.now ∙ ap (lane_for rows slots) found in
    c.number_before.ensures
    ∙ ap (λ xs. cond (c.index.result.now.last == 0) None (Some (row_at xs (c.index.result.now.last - 1)).number)) c.as_slice.ensures.value
    ∙ ap (λ n. cond (n == 0) None (Some (row_at rows (n - 1)).number)) (slot_read (λ s. s.last) slots c.in_ok-at.at c.index.result.now within c.index.ensures)
    ∙ sym (last_is c.in_ok-at.at (slot_at slots c.in_ok-at.at).last rows (c.self.invariant.kept.stand c.in_ok-at.at within).last)
    ∙ ap (λ (l : Lane). last_of l.unskipped) (sym lane)

pub returns-clause-greatest : goal.returns-clause-greatest
returns-clause-greatest c =
    let rows = c.self.inside.rows.items in
    let slots = c.self.inside.slots.items in
    let found = sym c.slot_of.ensures ∙ c.in_ok-at.was in
    let lane = ap (λ m. lane_of m c.args.name.now) (sym c.self.view_is) ∙ lanes_are rows slots c.self.inside.names c.args.name.now ∙ ap (lane_for rows slots) found in
    let g = greatest_last (unskipped_at c.in_ok-at.at rows) (unskipped_rising c.in_ok-at.at rows c.self.invariant.kept.rising) in
    let P : List ℕ → Type 0 = λ ns. IfSome c.number_before.result (λ n. All (λ m. m ≤ n) ns) in
    let Q : Option ℕ → Type 0 = λ o. IfSome o (λ n. All (λ m. m ≤ n) (unskipped_at c.in_ok-at.at rows)) in
    subst P (ap (λ (l : Lane). l.unskipped) (sym lane)) (subst Q (sym (returns-clause-last c ∙ ap (λ (l : Lane). last_of l.unskipped) lane)) g)

pub returns-in_err-at-clause-last : goal.returns-in_err-at-clause-last
returns-in_err-at-clause-last c =
    let rows = c.self.inside.rows.items in
    let slots = c.self.inside.slots.items in
    let found = sym c.slot_of.ensures ∙ c.in_err-at.was in
    let lane = ap (λ m. lane_of m c.args.name.now) (sym c.self.view_is) ∙ lanes_are rows slots c.self.inside.names c.args.name.now ∙ ap (lane_for rows slots) found in
    c.from_residual.ensures ∙ ap (λ (l : Lane). last_of l.unskipped) (sym lane)

pub returns-in_err-at-clause-greatest : goal.returns-in_err-at-clause-greatest
returns-in_err-at-clause-greatest c = rw c.from_residual.ensures tt
