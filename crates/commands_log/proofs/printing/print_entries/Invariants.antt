use Rattle.std.proofs.Common.{◌≡◌, ◌≤◌, ◌+◌, take}
use Rattle.keeper_api.specs.Undisturbed.{Undisturbed}
use Rattle.commands_log.proofs.Gathered.{IsGathered}
use Rattle.commands_log.proofs.printing.print_entries.Given as goal

abbrev pub invariant-ids : goal.invariant-ids
invariant-ids g l = record {
  so : IsGathered (g.R.Keeper.content l.keeper) (take l.id-index l.ids) (g.K.Sink.contents l.fn.sink) (g.K.Sink.contents l.sink) l.piece;
  same : Undisturbed g.R.Keeper l.fn.keeper l.keeper;
  keeper_quiet : g.R.Keeper.faults l.keeper ≡ g.R.Keeper.faults l.fn.keeper;
  sink_quiet : g.K.Sink.faults l.sink ≡ g.K.Sink.faults l.fn.sink;
  reads : g.R.Keeper.reads l.keeper ≤ g.R.Keeper.reads l.fn.keeper + l.id-index;
}
