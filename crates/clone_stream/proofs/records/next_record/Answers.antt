use Rattle.std.proofs.Common.{[], ◌∷◌, ◌++◌, ◌∙◌, arith}
use Rattle.std.proofs.lemmas.List.{length-append}
use Rattle.buffered_reader.specs.Ahead.{ahead}
use Rattle.clone_stream.specs.Records.{last_read}
use Rattle.clone_stream.specs.Words.{IsHead, words_line}
use Rattle.octets.proofs.Causing.{after_quiet}
use Rattle.clone_stream.proofs.Placed.{object_breaks, ref_breaks, stops_later}
use Rattle.clone_stream.proofs.records.next_record.Goals as goal

pub returns-in-Ok-Object-clause-bad : goal.returns-in-Ok-Object-clause-bad
returns-in-Ok-Object-clause-bad g c =
    let head = c.in-Ok-Object.head in
    let is : IsHead head = rw c.in-Ok-Object.field-0-is at c.in-Ok-Object.ensures.valid in
    object_breaks c.object_after.result (last_read c.args.objects.now c.args.refs.now) (ahead c.args.reader.now (g.S.Source.left c.args.source.now)) (ahead c.next_words.new.reader (g.S.Source.left c.next_words.new.source))
    c.args.reader.now.taken c.next_words.new.reader.taken head is (rw c.in-Ok-Object.field-0-is at c.in-Ok-Object.ensures.ahead) (rw c.in-Ok-Object.field-0-is at c.in-Ok-Object.ensures.taken)
    (rw c.taken-at.ensures at c.object_after.ensures.bad)

pub returns-in-Ok-Object-clause-reads : goal.returns-in-Ok-Object-clause-reads
returns-in-Ok-Object-clause-reads g c =
    let line = words_line c.in-Ok-Object.field-0 in
    let whole = length-append line (10 ∷ []) in
    let taken = c.in-Ok-Object.ensures.taken in
    record {
      past = c.object_after.ensures.reads.past ∙ c.in-Ok-Object.ensures.reads.past;
      limit = c.object_after.ensures.reads.limit ∙ c.in-Ok-Object.ensures.reads.limit;
      cause = after_quiet c.object_after.result c.in-Ok-Object.ensures.reads.cause.is c.object_after.ensures.reads.cause;
      stops = stops_later c.object_after.result c.args.reader.now c.next_words.new.reader c.object_after.new.reader (ahead c.args.reader.now (g.S.Source.left c.args.source.now)) (ahead c.next_words.new.reader (g.S.Source.left c.next_words.new.source))
          (ahead c.object_after.new.reader (g.S.Source.left c.object_after.new.source)) (line ++ 10 ∷ []) c.in-Ok-Object.ensures.ahead (omega arith) c.object_after.ensures.reads.stops;
    }

pub returns-in-Ok-Ref-clause-bad : goal.returns-in-Ok-Ref-clause-bad
returns-in-Ok-Ref-clause-bad g c =
    let value = c.in-Ok-Ref.value in
    ref_breaks c.ref_after.result (last_read c.args.objects.now c.args.refs.now) (ahead c.args.reader.now (g.S.Source.left c.args.source.now)) (ahead c.next_words.new.reader (g.S.Source.left c.next_words.new.source))
    c.args.reader.now.taken value.name value.id (rw c.in-Ok-Ref.field-0-is at c.in-Ok-Ref.ensures.valid) (rw c.in-Ok-Ref.field-0-is at c.in-Ok-Ref.ensures.ahead)
    (rw c.taken-at.ensures at c.ref_after.ensures.bad)
