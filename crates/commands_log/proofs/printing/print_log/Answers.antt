use Rattle.std.proofs.Common.{List, ℕ, subst}
use Rattle.std.specs.Prelude.{Err}
use Rattle.commands_log.specs.Printing.{PrintsAt}
use Rattle.commands_log.proofs.Outcomes.{not_printed}
use Rattle.commands_log.proofs.printing.print_log.Goals as goal

pub returns-clause-prints : goal.returns-clause-prints
returns-clause-prints g c =
    let held = g.R.Keeper.content c.print_entries.new.keeper in
    let printed = g.K.Sink.contents c.args.sink.now in
    let now = g.K.Sink.contents c.print_entries.new.sink in
    not_printed (g.R.Keeper.content c.load.new.keeper) held c.in_ok-log.log.ids printed now c.print_entries.ensures.same.content c.in_ok-log.ensures.log c.in-Err.fault
    (subst (λ (ids : List (List ℕ)). PrintsAt ids held printed now (Err c.in-Err.fault)) c.as_slice.ensures c.in-Err.ensures.prints)
