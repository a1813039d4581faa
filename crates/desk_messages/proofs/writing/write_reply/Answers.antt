use Rattle.std.proofs.Common.{◌≡◌, ℕ, List, ◌++◌, length, subst, ◌∙◌}
use Rattle.std.specs.Prelude.{OnErr, Result, Ok, Err}
use Rattle.std.proofs.lemmas.Result.{on_err_weaker, on_ok_weaker}
use Rattle.octets.specs.Content.{GainsPart, with_end}
use Rattle.desk_messages.specs.Texts.{reply_head}
use Rattle.desk_messages.proofs.Parts.{both, first_part, second_part}
use Rattle.desk_messages.proofs.writing.write_reply.Goals as goal

always : {T E P : Type 0} (r : Result T E) → P → OnErr r P
always (Ok x) p = tt
always (Err e) p = p

pub returns-in_err-write_all-clause-part : goal.returns-in_err-write_all-clause-part
returns-in_err-write_all-clause-part g c =
    let body = c.args.body.now in
    let head = c.as_slice-2.result.now in
    let before = g.K.Sink.contents c.args.sink.now in
    let after = g.K.Sink.contents c.write_all-2.new.sink in
    let is : head ≡ reply_head c.args.code (length body) = c.as_slice-2.ensures ∙ c.reply_head-text.ensures.text in
    let part : GainsPart before after (reply_head c.args.code (length body) ++ body) =
    subst (λ (h : List ℕ). GainsPart before after (h ++ body)) is (first_part before after head body c.in_err-write_all.ensures.part) in
    always c.from_residual.result part

pub returns-clause-whole : goal.returns-clause-whole
returns-clause-whole g c =
    let body = c.args.body.now in
    let head = c.as_slice-2.result.now in
    let before = g.K.Sink.contents c.args.sink.now in
    let mid = g.K.Sink.contents c.write_all-2.new.sink in
    let after = g.K.Sink.contents c.write_all-3.new.sink in
    let is : head ≡ reply_head c.args.code (length body) = c.as_slice-2.ensures ∙ c.reply_head-text.ensures.text in
    on_ok_weaker c.write_all-3.result
    (λ (done : after ≡ with_end mid body). subst (λ (h : List ℕ). after ≡ with_end before (h ++ body)) is (both before mid after head body c.in_ok-write_all.ensures.whole done))
    c.write_all-3.ensures.whole

pub returns-clause-part : goal.returns-clause-part
returns-clause-part g c =
    let body = c.args.body.now in
    let head = c.as_slice-2.result.now in
    let before = g.K.Sink.contents c.args.sink.now in
    let mid = g.K.Sink.contents c.write_all-2.new.sink in
    let after = g.K.Sink.contents c.write_all-3.new.sink in
    let is : head ≡ reply_head c.args.code (length body) = c.as_slice-2.ensures ∙ c.reply_head-text.ensures.text in
    on_err_weaker c.write_all-3.result
    (λ (part : GainsPart mid after body). subst (λ (h : List ℕ). GainsPart before after (h ++ body)) is (second_part before mid after head body c.in_ok-write_all.ensures.whole part))
    c.write_all-3.ensures.part
