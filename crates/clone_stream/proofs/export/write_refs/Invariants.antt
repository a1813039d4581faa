use Rattle.std.proofs.Common.{◌≡◌, ◌-◌}
use Rattle.keeper_api.specs.Undisturbed.{Undisturbed}
use Rattle.clone_stream.specs.Exports.{refs_in}
use Rattle.clone_stream.specs.Streams.{IsRef, ref_record, largest_stream}
use Rattle.clone_stream.proofs.Walks.{IsSoFar}
use Rattle.clone_stream.proofs.export.write_refs.Given as goal

abbrev pub invariant-refs : goal.invariant-refs
invariant-refs g l = record {
  so : IsSoFar ref_record IsRef refs_in (g.R.Keeper.content l.keeper) l.start (g.K.Sink.contents l.fn.sink) (g.K.Sink.contents l.sink) l.last l.written;
  read : g.R.Keeper.reads l.keeper ≡ g.R.Keeper.reads l.fn.keeper;
  same : Undisturbed g.R.Keeper l.fn.keeper l.keeper;
  keeper_quiet : g.R.Keeper.faults l.keeper ≡ g.R.Keeper.faults l.fn.keeper;
  sink_quiet : g.K.Sink.faults l.sink ≡ g.K.Sink.faults l.fn.sink;
}

abbrev pub decreases-refs : goal.decreases-refs
decreases-refs g l = largest_stream - l.written
