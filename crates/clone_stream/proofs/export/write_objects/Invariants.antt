use Rattle.std.proofs.Common.{◌≡◌, ◌-◌, Some}
use Rattle.std.specs.FinMap.{entries}
use Rattle.git_object.specs.Repository.{Repository}
use Rattle.keeper_api.specs.Undisturbed.{Undisturbed}
use Rattle.clone_stream.specs.Exports.{objects_in}
use Rattle.clone_stream.specs.Streams.{IsOwn, object_record, largest_stream}
use Rattle.clone_stream.proofs.Walks.{IsSoFar, ReadsUpTo}
use Rattle.clone_stream.proofs.export.write_objects.Given as goal

abbrev pub invariant-objects : goal.invariant-objects
invariant-objects g l = record {
  so : IsSoFar object_record IsOwn objects_in (g.R.Keeper.content l.keeper) l.start (g.K.Sink.contents l.fn.sink) (g.K.Sink.contents l.sink) l.last l.written;
  read : (r : Repository) → g.R.Keeper.content l.keeper ≡ Some r → ReadsUpTo object_record IsOwn (entries r.objects) l.last (g.R.Keeper.reads l.fn.keeper) (g.R.Keeper.reads l.keeper);
  same : Undisturbed g.R.Keeper l.fn.keeper l.keeper;
  keeper_quiet : g.R.Keeper.faults l.keeper ≡ g.R.Keeper.faults l.fn.keeper;
  sink_quiet : g.K.Sink.faults l.sink ≡ g.K.Sink.faults l.fn.sink;
}

abbrev pub decreases-objects : goal.decreases-objects
decreases-objects g l = largest_stream - l.written
