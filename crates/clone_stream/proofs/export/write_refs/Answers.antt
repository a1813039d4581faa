use Rattle.std.proofs.Common.{rules}
use Rattle.keeper_api.proofs.Coming.{as_before_then}
use Rattle.clone_stream.specs.Exports.{IsNever, refs_in}
use Rattle.clone_stream.specs.Streams.{IsRef, ref_record}
use Rattle.clone_stream.proofs.Walks.{at_last, halted, one_more}
use Rattle.clone_stream.proofs.export.write_refs.Goals as goal

pub refs-preserved : goal.refs-preserved
refs-preserved g c = record {
  so = one_more ref_record IsRef IsNever refs_in _ _ _ _ _ _ _ _ c.refs.invariant.so c.write_ref.ensures.same.content c.in-Ok-Some.name c.in-Ok-Some.now (rw c.in-Ok-Some.field-0-is at c.in-Ok-Some.ensures.steps);
  read = search rules;
  same = as_before_then g.R.Keeper c.args.keeper.now c.refs.keeper c.write_ref.new.keeper
      c.refs.invariant.same c.write_ref.ensures.same;
  keeper_quiet = search rules;
  sink_quiet = search rules;
}

pub returns-in-Ok-None-clause-runs : goal.returns-in-Ok-None-clause-runs
returns-in-Ok-None-clause-runs g c = at_last ref_record IsRef IsNever refs_in _ _ _ _ _ _ _ _ c.refs.invariant.so c.write_ref.ensures.same.content (rw c.in-Ok-None.field-0-is at c.in-Ok-None.ensures.steps)

pub returns-in-Err-clause-runs : goal.returns-in-Err-clause-runs
returns-in-Err-clause-runs g c = halted ref_record IsRef IsNever refs_in _ _ _ _ _ _ _ _ c.refs.invariant.so c.write_ref.ensures.same.content c.in-Err.fault c.in-Err.ensures.steps
