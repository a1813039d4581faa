use Rattle.std.proofs.Common.{refl}
use Rattle.worlds.proofs.Counting.{after, sink_failed, sink_quiet}
use Rattle.worlds.specs.Counts.{Faults}
use Rattle.worlds.specs.declared.ending.Ending.TheVariants.{Done, Refused}
use Rattle.worlds.specs.declared.ending.Part.TheVariants as part
use Rattle.worlds.specs.declared.ending.Refusal.TheVariants as refusal
use Rattle.commands_mirror.specs.Checking.{found_ending}
use Rattle.commands_mirror.proofs.CountedEvidence.{found_quiet, read_counted, unread_counted}
use Rattle.commands_mirror.proofs.EvidenceEnded.{unread_ends}
use Rattle.commands_mirror.proofs.checking_evidence.evidence_check.Goals as goal

pub returns-in-Err-clause-counted : goal.returns-in-Err-clause-counted
returns-in-Err-clause-counted g c = λ rest.
    let was : Faults = record rest { source = g.S.Source.faults c.args.source.now; sink = g.K.Sink.faults c.args.sink.now } in
    unread_counted (g.S.Source.left c.args.source.now) (g.S.Source.left c.read_dossier.new.source) was (g.S.Source.faults c.read_dossier.new.source) c.in-Err.fault
    c.in-Err.ensures.ends c.in-Err.ensures.cause

pub returns-in_default-clause-counted : goal.returns-in_default-clause-counted
returns-in_default-clause-counted g c = λ rest.
    let was : Faults = record rest { source = g.S.Source.faults c.args.source.now; sink = g.K.Sink.faults c.args.sink.now } in
    read_counted (Refused refusal.Memory) was (g.S.Source.faults c.read_dossier.new.source) c.in-Ok.dossier refl c.in-Ok.ensures.cause

pub returns-in-Ok-write_all-clause-counted : goal.returns-in-Ok-write_all-clause-counted
returns-in-Ok-write_all-clause-counted g c = λ rest.
    let was : Faults = record rest { source = g.S.Source.faults c.args.source.now; sink = g.K.Sink.faults c.args.sink.now } in
    let mid : Faults = record rest { source = g.S.Source.faults c.read_dossier.new.source; sink = g.K.Sink.faults c.args.sink.now } in
    let told = found_ending c.in-Ok-find.finding.fork c.in-Ok-find.finding.reuse in
    let silent = found_quiet c.in-Ok-find.finding.fork c.in-Ok-find.finding.reuse in
    after {m = mid} told told silent (read_counted told was (g.S.Source.faults c.read_dossier.new.source) c.in-Ok.dossier silent c.in-Ok.ensures.cause)
    (sink_quiet told mid (g.K.Sink.faults c.write_all.new.sink) silent c.in-Ok-write_all.ensures.cause.later c.in-Ok-write_all.ensures.cause.is)

pub returns-clause-counted : goal.returns-clause-counted
returns-clause-counted g c = λ rest.
    let was : Faults = record rest { source = g.S.Source.faults c.args.source.now; sink = g.K.Sink.faults c.args.sink.now } in
    let mid : Faults = record rest { source = g.S.Source.faults c.read_dossier.new.source; sink = g.K.Sink.faults c.args.sink.now } in
    after {m = mid} Done (Refused (refusal.Fault part.Sink)) refl (read_counted Done was (g.S.Source.faults c.read_dossier.new.source) c.in-Ok.dossier refl c.in-Ok.ensures.cause)
    (sink_failed mid (g.K.Sink.faults c.write_all.new.sink) c.in-Err-write_all.ensures.cause.later c.in-Err-write_all.ensures.cause.is)

pub returns-in-Err-clause-ends : goal.returns-in-Err-clause-ends
returns-in-Err-clause-ends g c =
    unread_ends (g.S.Source.left c.args.source.now) (g.S.Source.left c.read_dossier.new.source) (g.K.Sink.contents c.args.sink.now) c.in-Err.fault c.in-Err.ensures.ends

pub returns-in_default-lines_of-clause-counted : goal.returns-in_default-lines_of-clause-counted
returns-in_default-lines_of-clause-counted g c = λ rest.
    let was : Faults = record rest { source = g.S.Source.faults c.args.source.now; sink = g.K.Sink.faults c.args.sink.now } in
    read_counted (Refused refusal.Memory) was (g.S.Source.faults c.read_dossier.new.source) c.in-Ok.dossier refl c.in-Ok.ensures.cause
