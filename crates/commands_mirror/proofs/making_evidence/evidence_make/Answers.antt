use Rattle.std.proofs.Common.{refl}
use Rattle.worlds.proofs.Counting.{after, keeper_quiet, sink_failed, sink_quiet}
use Rattle.worlds.specs.Counts.{Faults}
use Rattle.worlds.specs.declared.ending.Ending.TheVariants.{Done, Refused}
use Rattle.worlds.specs.declared.ending.Part.TheVariants as part
use Rattle.worlds.specs.declared.ending.Refusal.TheVariants as refusal
use Rattle.commands_mirror.proofs.CountedEvidence.{unmade_counted}
use Rattle.commands_mirror.proofs.EvidenceEnded.{unmade_ends}
use Rattle.commands_mirror.proofs.making_evidence.evidence_make.Goals as goal

pub returns-in-Err-clause-counted : goal.returns-in-Err-clause-counted
returns-in-Err-clause-counted g c = λ rest.
    let was : Faults = record rest { sink = g.K.Sink.faults c.args.sink.now; keeper = g.R.Keeper.faults c.args.keeper.now } in
    unmade_counted (g.R.Keeper.content c.both_objects.new.keeper) c.args.left.now c.args.right.now was (g.R.Keeper.faults c.both_objects.new.keeper) c.in-Err.fault
    c.in-Err.ensures.ends c.in-Err.ensures.cause

pub returns-in_default-clause-counted : goal.returns-in_default-clause-counted
returns-in_default-clause-counted g c = λ rest.
    let was : Faults = record rest { sink = g.K.Sink.faults c.args.sink.now; keeper = g.R.Keeper.faults c.args.keeper.now } in
    keeper_quiet (Refused refusal.Memory) was (g.R.Keeper.faults c.both_objects.new.keeper) refl c.in-Ok.ensures.cause.later c.in-Ok.ensures.cause.is

pub returns-in-Ok-write_all-clause-counted : goal.returns-in-Ok-write_all-clause-counted
returns-in-Ok-write_all-clause-counted g c = λ rest.
    let was : Faults = record rest { sink = g.K.Sink.faults c.args.sink.now; keeper = g.R.Keeper.faults c.args.keeper.now } in
    let mid : Faults = record rest { sink = g.K.Sink.faults c.args.sink.now; keeper = g.R.Keeper.faults c.both_objects.new.keeper } in
    after {m = mid} Done Done refl (keeper_quiet Done was (g.R.Keeper.faults c.both_objects.new.keeper) refl c.in-Ok.ensures.cause.later c.in-Ok.ensures.cause.is)
    (sink_quiet Done mid (g.K.Sink.faults c.write_all.new.sink) refl c.in-Ok-write_all.ensures.cause.later c.in-Ok-write_all.ensures.cause.is)

pub returns-clause-counted : goal.returns-clause-counted
returns-clause-counted g c = λ rest.
    let was : Faults = record rest { sink = g.K.Sink.faults c.args.sink.now; keeper = g.R.Keeper.faults c.args.keeper.now } in
    let mid : Faults = record rest { sink = g.K.Sink.faults c.args.sink.now; keeper = g.R.Keeper.faults c.both_objects.new.keeper } in
    after {m = mid} Done (Refused (refusal.Fault part.Sink)) refl (keeper_quiet Done was (g.R.Keeper.faults c.both_objects.new.keeper) refl c.in-Ok.ensures.cause.later c.in-Ok.ensures.cause.is)
    (sink_failed mid (g.K.Sink.faults c.write_all.new.sink) c.in-Err-write_all.ensures.cause.later c.in-Err-write_all.ensures.cause.is)

pub returns-in-Err-clause-ends : goal.returns-in-Err-clause-ends
returns-in-Err-clause-ends g c =
    unmade_ends c.args.public.now c.args.left.now c.args.right.now (g.R.Keeper.content c.both_objects.new.keeper) (g.K.Sink.contents c.args.sink.now) c.in-Err.fault c.in-Err.ensures.ends
