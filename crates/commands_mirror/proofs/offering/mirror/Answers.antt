use Rattle.std.proofs.Common.{inl}
use Rattle.worlds.proofs.Counting.{after, sink_failed, sink_quiet}
use Rattle.worlds.specs.Counts.{Faults}
use Rattle.worlds.specs.declared.ending.Ending.TheVariants.{Refused}
use Rattle.worlds.specs.declared.ending.Part.TheVariants as part
use Rattle.worlds.specs.declared.ending.Refusal.TheVariants as refusal
use Rattle.commands_mirror.specs.Offering.{answer_ending}
use Rattle.commands_mirror.proofs.Counted.{answer_quiet, answered_counted, refused_counted, told_counted}
use Rattle.commands_mirror.proofs.OfferEnded.{of_input, refused_ends}
use Rattle.commands_mirror.proofs.offering.mirror.Goals as goal

pub returns-in-Err-clause-ends : goal.returns-in-Err-clause-ends
returns-in-Err-clause-ends g c =
    refused_ends g.R.Keeper (g.S.Source.left c.args.source.now) (g.S.Source.left c.offer.new.source) c.args.keeper.now c.offer.new.kept c.in-Err.fault
    c.in-Err.ensures.refused c.in-Err.ensures.input (g.K.Sink.contents c.args.sink.now) (g.K.Sink.contents c.tell.new.sink) c.tell.result c.tell.ensures.tells

pub returns-in-Err-clause-counted : goal.returns-in-Err-clause-counted
returns-in-Err-clause-counted g c = λ rest.
    let was : Faults = record rest { source = g.S.Source.faults c.args.source.now; sink = g.K.Sink.faults c.args.sink.now; keeper = g.R.Keeper.faults c.args.keeper.now } in
    let mid : Faults = record rest { source = g.S.Source.faults c.offer.new.source; sink = g.K.Sink.faults c.args.sink.now; keeper = g.R.Keeper.faults c.offer.new.kept } in
    told_counted was mid (g.K.Sink.faults c.tell.new.sink) (g.K.Sink.contents c.args.sink.now) (g.K.Sink.contents c.tell.new.sink) c.in-Err.fault c.tell.result
    (refused_counted was (g.S.Source.faults c.offer.new.source) (g.R.Keeper.faults c.offer.new.kept) c.in-Err.fault
    (of_input g.R.Keeper (g.S.Source.left c.args.source.now) (g.S.Source.left c.offer.new.source) c.args.keeper.now c.offer.new.kept c.in-Err.fault c.in-Err.ensures.refused)
    c.in-Err.ensures.source_cause c.in-Err.ensures.kept_cause)
    c.tell.ensures.tells c.tell.ensures.cause

pub returns-in-Err-print_offer-clause-ends : goal.returns-in-Err-print_offer-clause-ends
returns-in-Err-print_offer-clause-ends g c =
    inl (record { offer = c.in-Ok.found; mirrors = c.in-Ok.ensures.ok; gains = c.in-Err-print_offer.ensures.part })

pub returns-in-Ok-print_offer-clause-counted : goal.returns-in-Ok-print_offer-clause-counted
returns-in-Ok-print_offer-clause-counted g c = λ rest.
    let was : Faults = record rest { source = g.S.Source.faults c.args.source.now; sink = g.K.Sink.faults c.args.sink.now; keeper = g.R.Keeper.faults c.args.keeper.now } in
    let mid : Faults = record rest { source = g.S.Source.faults c.offer.new.source; sink = g.K.Sink.faults c.args.sink.now; keeper = g.R.Keeper.faults c.offer.new.kept } in
    let told = answer_ending c.in-Ok.found in
    after {m = mid} told told (answer_quiet c.in-Ok.found)
    (answered_counted was (g.S.Source.faults c.offer.new.source) (g.R.Keeper.faults c.offer.new.kept) c.in-Ok.found c.in-Ok.ensures.source_cause c.in-Ok.ensures.kept_cause)
    (sink_quiet told mid (g.K.Sink.faults c.print_offer.new.sink) (answer_quiet c.in-Ok.found) c.in-Ok-print_offer.ensures.cause.later c.in-Ok-print_offer.ensures.cause.is)

pub returns-in-Err-print_offer-clause-counted : goal.returns-in-Err-print_offer-clause-counted
returns-in-Err-print_offer-clause-counted g c = λ rest.
    let was : Faults = record rest { source = g.S.Source.faults c.args.source.now; sink = g.K.Sink.faults c.args.sink.now; keeper = g.R.Keeper.faults c.args.keeper.now } in
    let mid : Faults = record rest { source = g.S.Source.faults c.offer.new.source; sink = g.K.Sink.faults c.args.sink.now; keeper = g.R.Keeper.faults c.offer.new.kept } in
    after {m = mid} (answer_ending c.in-Ok.found) (Refused (refusal.Fault part.Sink)) (answer_quiet c.in-Ok.found)
    (answered_counted was (g.S.Source.faults c.offer.new.source) (g.R.Keeper.faults c.offer.new.kept) c.in-Ok.found c.in-Ok.ensures.source_cause c.in-Ok.ensures.kept_cause)
    (sink_failed mid (g.K.Sink.faults c.print_offer.new.sink) c.in-Err-print_offer.ensures.cause.later c.in-Err-print_offer.ensures.cause.is)
