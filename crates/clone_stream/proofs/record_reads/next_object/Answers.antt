use Rattle.std.proofs.Common.{sym, ap, ◌∙◌}
use Rattle.std.proofs.lemmas.Bool.{false≢true}
use Rattle.buffered_reader.specs.Ahead.{ahead}
use Rattle.git_object.specs.Objects.{pair_id}
use Rattle.clone_stream.proofs.Broken.{other_id}
use Rattle.clone_stream.proofs.record_reads.next_object.Goals as goal

pub returns-then-not-same_bytes-clause-bad : goal.returns-then-not-same_bytes-clause-bad
returns-then-not-same_bytes-clause-bad g c =
    other_id (ahead c.args.reader.now (g.S.Source.left c.args.source.now)) (ahead c.next_body.new.reader (g.S.Source.left c.next_body.new.source)) c.args.head.now.id c.args.head.now.kind c.args.head.now.size
    c.args.reader.now.taken c.in-Ok.body c.id-found.result c.in-Ok.ensures.ahead c.in-Ok.ensures.len (c.id-found.ensures ∙ ap pair_id c.in-Ok-new.ensures)
    (λ same. false≢true (sym c.if-not-same_bytes.true ∙ c.same_bytes.ensures.1 (c.as_bytes.ensures.bytes ∙ same ∙ sym c.as_bytes-2.ensures.bytes)))
