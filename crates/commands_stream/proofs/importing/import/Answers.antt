use Rattle.std.proofs.Common.{refl}
use Rattle.worlds.proofs.Counting.{after, sink_failed, sink_quiet}
use Rattle.worlds.specs.Counts.{Faults}
use Rattle.worlds.specs.declared.ending.Ending.TheVariants.{Done, Refused}
use Rattle.worlds.specs.declared.ending.Part.TheVariants as part
use Rattle.worlds.specs.declared.ending.Refusal.TheVariants as refusal
use Rattle.commands_stream.proofs.importing.import.Goals as goal

pub returns-in-Err-clause-counted : goal.returns-in-Err-clause-counted
returns-in-Err-clause-counted g c = λ rest. c.in-Err.ensures.counted (record rest { sink = g.K.Sink.faults c.args.sink.now })

pub returns-in-Ok-write_all-clause-counted : goal.returns-in-Ok-write_all-clause-counted
returns-in-Ok-write_all-clause-counted g c = λ rest.
    let mid : Faults = record rest { source = g.S.Source.faults c.take.new.source; sink = g.K.Sink.faults c.args.sink.now; keeper = g.R.Keeper.faults c.take.new.keeper } in
    after {m = mid} Done Done refl (c.in-Ok.ensures.counted (record rest { sink = g.K.Sink.faults c.args.sink.now }))
    (sink_quiet Done mid (g.K.Sink.faults c.write_all.new.sink) refl c.in-Ok-write_all.ensures.cause.later c.in-Ok-write_all.ensures.cause.is)

pub returns-in-Err-write_all-clause-counted : goal.returns-in-Err-write_all-clause-counted
returns-in-Err-write_all-clause-counted g c = λ rest.
    let mid : Faults = record rest { source = g.S.Source.faults c.take.new.source; sink = g.K.Sink.faults c.args.sink.now; keeper = g.R.Keeper.faults c.take.new.keeper } in
    after {m = mid} Done (Refused (refusal.Fault part.Sink)) refl (c.in-Ok.ensures.counted (record rest { sink = g.K.Sink.faults c.args.sink.now }))
    (sink_failed mid (g.K.Sink.faults c.write_all.new.sink) c.in-Err-write_all.ensures.cause.later c.in-Err-write_all.ensures.cause.is)
