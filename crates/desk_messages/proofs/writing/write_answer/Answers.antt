use Rattle.std.proofs.Common.{◌≡◌, ℕ, ap, ◌∙◌}
use Rattle.std.proofs.lemmas.Result.{on_ok_weaker}
use Rattle.octets.specs.Content.{with_end}
use Rattle.desk_messages.specs.ReplyBodies.{answer_text, code_of}
use Rattle.desk_messages.specs.Texts.{reply_text}
use Rattle.desk_messages.proofs.writing.write_answer.Goals as goal

pub returns-clause-whole : goal.returns-clause-whole
returns-clause-whole g c =
    let before = g.K.Sink.contents c.args.sink.now in
    let after = g.K.Sink.contents c.write_reply.new.sink in
    let same : reply_text c.code_of.result c.as_slice.result.now ≡ answer_text c.args.reply.now = ap (λ (k : ℕ). reply_text k c.as_slice.result.now) c.code_of.ensures ∙ ap (reply_text (code_of c.args.reply.now)) (c.as_slice.ensures ∙ c.body_of.ensures) in
    on_ok_weaker c.write_reply.result
    (λ (done : after ≡ with_end before (reply_text c.code_of.result c.as_slice.result.now)). done ∙ ap (with_end before) same)
    c.write_reply.ensures.whole
