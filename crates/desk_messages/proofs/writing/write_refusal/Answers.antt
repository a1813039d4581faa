use Rattle.std.proofs.Common.{◌≡◌, ℕ, ap, ◌∙◌}
use Rattle.std.proofs.lemmas.Result.{on_ok_weaker}
use Rattle.octets.specs.Content.{with_end}
use Rattle.desk_messages.specs.ReplyBodies.{refusal_code, refusal_text}
use Rattle.desk_messages.specs.Texts.{reply_text}
use Rattle.desk_messages.proofs.writing.write_refusal.Goals as goal

pub returns-clause-whole : goal.returns-clause-whole
returns-clause-whole g c =
    let before = g.K.Sink.contents c.args.sink.now in
    let after = g.K.Sink.contents c.write_reply.new.sink in
    let same : reply_text c.refusal_code.result c.as_slice.result.now ≡ refusal_text c.args.why.now = ap (λ (k : ℕ). reply_text k c.as_slice.result.now) c.refusal_code.ensures ∙ ap (reply_text (refusal_code c.args.why.now)) (c.as_slice.ensures ∙ c.refusal_body.ensures) in
    on_ok_weaker c.write_reply.result
    (λ (done : after ≡ with_end before (reply_text c.refusal_code.result c.as_slice.result.now)). done ∙ ap (with_end before) same)
    c.write_reply.ensures.whole
