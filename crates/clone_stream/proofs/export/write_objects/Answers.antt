use Rattle.std.proofs.Common.{arith, rules}
use Rattle.std.specs.FinMap.{entries}
use Rattle.keeper_api.proofs.Coming.{as_before_then}
use Rattle.clone_stream.specs.Exports.{IsDamaged, objects_in}
use Rattle.clone_stream.specs.Streams.{IsOwn, object_record}
use Rattle.clone_stream.proofs.Walks.{all_read, at_last, halted, one_more, one_read}
use Rattle.clone_stream.proofs.export.write_objects.Goals as goal

pub objects-preserved : goal.objects-preserved
objects-preserved g c = record {
  so = one_more object_record IsOwn IsDamaged objects_in _ _ _ _ _ _ _ _ c.objects.invariant.so c.write_object.ensures.same.content c.in-Ok-Some.id c.in-Ok-Some.now (rw c.in-Ok-Some.field-0-is at c.in-Ok-Some.ensures.steps);
  read = λ r told.
      let step = rw c.in-Ok-Some.field-0-is at c.in-Ok-Some.ensures.steps in
      one_read object_record IsOwn IsDamaged r.objects c.objects.last (c.in-Ok-Some.id, step.value) _ _ _ (c.objects.invariant.read r (c.write_object.ensures.same.content r told)) (step.next.tells r told) step.next.is
      c.write_object.ensures.reads;
  same = as_before_then g.R.Keeper c.args.keeper.now c.objects.keeper c.write_object.new.keeper
      c.objects.invariant.same c.write_object.ensures.same;
  keeper_quiet = search rules;
  sink_quiet = search rules;
}

pub returns-in-Ok-None-clause-runs : goal.returns-in-Ok-None-clause-runs
returns-in-Ok-None-clause-runs g c = at_last object_record IsOwn IsDamaged objects_in _ _ _ _ _ _ _ _ c.objects.invariant.so c.write_object.ensures.same.content (rw c.in-Ok-None.field-0-is at c.in-Ok-None.ensures.steps)

pub returns-in-Err-clause-runs : goal.returns-in-Err-clause-runs
returns-in-Err-clause-runs g c = halted object_record IsOwn IsDamaged objects_in _ _ _ _ _ _ _ _ c.objects.invariant.so c.write_object.ensures.same.content c.in-Err.fault c.in-Err.ensures.steps

pub returns-in-Ok-None-clause-reads : goal.returns-in-Ok-None-clause-reads
returns-in-Ok-None-clause-reads g c = λ r told.
    let all = all_read object_record IsOwn IsDamaged (entries r.objects) c.objects.last _ _ (c.objects.invariant.read r (c.write_object.ensures.same.content r told)) in
    omega (arith, all, c.in-Ok-None.ensures.end c.in-Ok-None.field-0-is)
