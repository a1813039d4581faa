use Rattle.std.proofs.Common.{◌≡◌, ap, ◌∙◌}
use Rattle.std.proofs.lemmas.Result.{on_ok_weaker}
use Rattle.octets.specs.Content.{with_end}
use Rattle.desk_messages.specs.ReplyBodies.{tip_text}
use Rattle.desk_messages.specs.Texts.{reply_text}
use Rattle.desk_messages.proofs.writing.write_tip.Goals as goal

pub returns-clause-whole : goal.returns-clause-whole
returns-clause-whole g c =
    let before = g.K.Sink.contents c.args.sink.now in
    let after = g.K.Sink.contents c.write_reply.new.sink in
    let same : reply_text 200 c.as_slice.result.now ≡ tip_text c.args.count c.args.id.now = ap (reply_text 200) (c.as_slice.ensures ∙ c.entry_line.ensures) in
    on_ok_weaker c.write_reply.result
    (λ (done : after ≡ with_end before (reply_text 200 c.as_slice.result.now)). done ∙ ap (with_end before) same)
    c.write_reply.ensures.whole
