use Rattle.std.proofs.Common.{ap, ◌∙◌, ◌≡◌, refl, rules}
use Rattle.std.specs.Prelude.{None, Ok, Err, Result}
use Rattle.worlds.proofs.Counting.{after, quiet, sink_failed, sink_quiet}
use Rattle.worlds.specs.Counts.{Faults}
use Rattle.worlds.specs.declared.ending.Ending.TheVariants.{Broken, Refused}
use Rattle.worlds.specs.declared.ending.Part.TheVariants as part
use Rattle.worlds.specs.declared.ending.Refusal.TheVariants as refusal
use Rattle.commands_verify.specs.Verdicts.{RefVerdict}
use Rattle.commands_verify.specs.Verifying.{verify_ending}
use Rattle.commands_verify.specs.declared.verifying.VerifyFault.{VerifyFault}
use Rattle.worlds.specs.Endings.{part_of}
use Rattle.commands_verify.specs.declared.verifying.VerifyFault.TheVariants.{Unopened, LogBroken, KeeperFailed, Memory}
use Rattle.commands_verify.proofs.StaysOpen.{counted_by, verdict_quiet}
use Rattle.commands_verify.proofs.verifying.verify_ref.Goals as goal

pub returns-in-Err-Unopened-clause-counted : goal.returns-in-Err-Unopened-clause-counted
returns-in-Err-Unopened-clause-counted g c = λ rest.
    let was : Faults = record rest { source = g.S.Source.faults c.args.source.now; sink = g.K.Sink.faults c.args.sink.now; keeper = g.R.Keeper.faults c.args.keeper.now } in
    let mid : Faults = record rest { source = g.S.Source.faults c.look-looked.new.source; sink = g.K.Sink.faults c.args.sink.now; keeper = g.R.Keeper.faults c.look-looked.new.keeper } in
    let is : c.look-looked.result ≡ Err (Unopened c.in-Err-Unopened.fault) = search rules in
    let looked = counted_by c.look-looked.result (Err (Unopened c.in-Err-Unopened.fault)) was mid is (c.look-looked.ensures.counted (record rest { sink = g.K.Sink.faults c.args.sink.now })) in
    looked

pub returns-in-Err-KeeperFailed-clause-counted : goal.returns-in-Err-KeeperFailed-clause-counted
returns-in-Err-KeeperFailed-clause-counted g c = λ rest.
    let was : Faults = record rest { source = g.S.Source.faults c.args.source.now; sink = g.K.Sink.faults c.args.sink.now; keeper = g.R.Keeper.faults c.args.keeper.now } in
    let mid : Faults = record rest { source = g.S.Source.faults c.look-looked.new.source; sink = g.K.Sink.faults c.args.sink.now; keeper = g.R.Keeper.faults c.look-looked.new.keeper } in
    let is : c.look-looked.result ≡ Err KeeperFailed = search rules in
    let looked = counted_by c.look-looked.result (Err KeeperFailed) was mid is (c.look-looked.ensures.counted (record rest { sink = g.K.Sink.faults c.args.sink.now })) in
    looked

pub returns-in-Err-Memory-clause-counted : goal.returns-in-Err-Memory-clause-counted
returns-in-Err-Memory-clause-counted g c = λ rest.
    let was : Faults = record rest { source = g.S.Source.faults c.args.source.now; sink = g.K.Sink.faults c.args.sink.now; keeper = g.R.Keeper.faults c.args.keeper.now } in
    let mid : Faults = record rest { source = g.S.Source.faults c.look-looked.new.source; sink = g.K.Sink.faults c.args.sink.now; keeper = g.R.Keeper.faults c.look-looked.new.keeper } in
    let is : c.look-looked.result ≡ Err Memory = search rules in
    let looked = counted_by c.look-looked.result (Err Memory) was mid is (c.look-looked.ensures.counted (record rest { sink = g.K.Sink.faults c.args.sink.now })) in
    looked

pub returns-in-Ok-print_break-clause-counted : goal.returns-in-Ok-print_break-clause-counted
returns-in-Ok-print_break-clause-counted g c = λ rest.
    let was : Faults = record rest { source = g.S.Source.faults c.args.source.now; sink = g.K.Sink.faults c.args.sink.now; keeper = g.R.Keeper.faults c.args.keeper.now } in
    let mid : Faults = record rest { source = g.S.Source.faults c.look-looked.new.source; sink = g.K.Sink.faults c.args.sink.now; keeper = g.R.Keeper.faults c.look-looked.new.keeper } in
    let is : c.look-looked.result ≡ Err (LogBroken c.in-Err-LogBroken.id) = search rules in
    let looked = counted_by c.look-looked.result (Err (LogBroken c.in-Err-LogBroken.id)) was mid is (c.look-looked.ensures.counted (record rest { sink = g.K.Sink.faults c.args.sink.now })) in
    after {m = mid} Broken Broken refl looked (sink_quiet Broken mid (g.K.Sink.faults c.print_break.new.sink) refl c.in-Ok-print_break.ensures.cause.later c.in-Ok-print_break.ensures.cause.is)

pub returns-in-Err-clause-counted : goal.returns-in-Err-clause-counted
returns-in-Err-clause-counted g c = λ rest.
    let was : Faults = record rest { source = g.S.Source.faults c.args.source.now; sink = g.K.Sink.faults c.args.sink.now; keeper = g.R.Keeper.faults c.args.keeper.now } in
    let mid : Faults = record rest { source = g.S.Source.faults c.look-looked.new.source; sink = g.K.Sink.faults c.args.sink.now; keeper = g.R.Keeper.faults c.look-looked.new.keeper } in
    let is : c.look-looked.result ≡ Err (LogBroken c.in-Err-LogBroken.id) = search rules in
    let looked = counted_by c.look-looked.result (Err (LogBroken c.in-Err-LogBroken.id)) was mid is (c.look-looked.ensures.counted (record rest { sink = g.K.Sink.faults c.args.sink.now })) in
    after {m = mid} Broken (Refused (refusal.Fault part.Sink)) refl looked (sink_failed mid (g.K.Sink.faults c.print_break.new.sink) c.in-Err.ensures.cause.later c.in-Err.ensures.cause.is)

pub returns-in_default-clause-counted : goal.returns-in_default-clause-counted
returns-in_default-clause-counted g c = λ rest.
    let was : Faults = record rest { source = g.S.Source.faults c.args.source.now; sink = g.K.Sink.faults c.args.sink.now; keeper = g.R.Keeper.faults c.args.keeper.now } in
    let mid : Faults = record rest { source = g.S.Source.faults c.look-looked.new.source; sink = g.K.Sink.faults c.args.sink.now; keeper = g.R.Keeper.faults c.look-looked.new.keeper } in
    let is : c.look-looked.result ≡ Ok c.in-Ok.verdict = search rules in
    let looked = counted_by c.look-looked.result (Ok c.in-Ok.verdict) was mid is (c.look-looked.ensures.counted (record rest { sink = g.K.Sink.faults c.args.sink.now })) in
    after {m = mid} (verify_ending (Ok c.in-Ok.verdict)) (Refused refusal.Memory) (verdict_quiet c.in-Ok.verdict) looked (quiet (Refused refusal.Memory) mid refl)

pub returns-in-Ok-write_all-clause-counted : goal.returns-in-Ok-write_all-clause-counted
returns-in-Ok-write_all-clause-counted g c = λ rest.
    let was : Faults = record rest { source = g.S.Source.faults c.args.source.now; sink = g.K.Sink.faults c.args.sink.now; keeper = g.R.Keeper.faults c.args.keeper.now } in
    let mid : Faults = record rest { source = g.S.Source.faults c.look-looked.new.source; sink = g.K.Sink.faults c.args.sink.now; keeper = g.R.Keeper.faults c.look-looked.new.keeper } in
    let is : c.look-looked.result ≡ Ok c.in-Ok.verdict = search rules in
    let told = verify_ending c.look-looked.result in
    let silent : part_of told ≡ None = ap (λ (o : Result RefVerdict VerifyFault). part_of (verify_ending o)) is ∙ verdict_quiet c.in-Ok.verdict in
    after {m = mid} told told silent (c.look-looked.ensures.counted (record rest { sink = g.K.Sink.faults c.args.sink.now }))
    (sink_quiet told mid (g.K.Sink.faults c.write_all.new.sink) silent c.in-Ok-write_all.ensures.cause.later c.in-Ok-write_all.ensures.cause.is)

pub returns-in-Err-write_all-clause-counted : goal.returns-in-Err-write_all-clause-counted
returns-in-Err-write_all-clause-counted g c = λ rest.
    let was : Faults = record rest { source = g.S.Source.faults c.args.source.now; sink = g.K.Sink.faults c.args.sink.now; keeper = g.R.Keeper.faults c.args.keeper.now } in
    let mid : Faults = record rest { source = g.S.Source.faults c.look-looked.new.source; sink = g.K.Sink.faults c.args.sink.now; keeper = g.R.Keeper.faults c.look-looked.new.keeper } in
    let is : c.look-looked.result ≡ Ok c.in-Ok.verdict = search rules in
    let looked = counted_by c.look-looked.result (Ok c.in-Ok.verdict) was mid is (c.look-looked.ensures.counted (record rest { sink = g.K.Sink.faults c.args.sink.now })) in
    after {m = mid} (verify_ending (Ok c.in-Ok.verdict)) (Refused (refusal.Fault part.Sink)) (verdict_quiet c.in-Ok.verdict) looked
    (sink_failed mid (g.K.Sink.faults c.write_all.new.sink) c.in-Err-write_all.ensures.cause.later c.in-Err-write_all.ensures.cause.is)
