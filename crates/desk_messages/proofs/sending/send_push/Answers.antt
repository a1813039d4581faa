use Rattle.std.proofs.Common.{◌≡◌, ℕ, List, ◌++◌, length, subst, ◌∙◌}
use Rattle.std.specs.Prelude.{OnErr, Result, Ok, Err}
use Rattle.std.proofs.lemmas.Result.{on_err_weaker, on_ok_weaker}
use Rattle.octets.specs.Content.{GainsPart, with_end}
use Rattle.desk_messages.proofs.Parts.{both, first_part, second_part}
use Rattle.desk_messages.specs.Requests.{request_head}
use Rattle.desk_messages.proofs.sending.send_push.Goals as goal

always : {T E P : Type 0} (r : Result T E) → P → OnErr r P
always (Ok x) p = tt
always (Err e) p = p

pub returns-in_err-send_all-clause-part : goal.returns-in_err-send_all-clause-part
returns-in_err-send_all-clause-part g c =
    let push = c.args.push.now in
    let head = c.as_slice.result.now in
    let before = g.P.Peer.given c.args.peer.now in
    let after = g.P.Peer.given c.send_all.new.peer in
    let is : head ≡ request_head (length push) = c.as_slice.ensures ∙ c.request_head-head.ensures.text in
    let part : GainsPart before after (request_head (length push) ++ push) =
    subst (λ (h : List ℕ). GainsPart before after (h ++ push)) is (first_part before after head push c.in_err-send_all.ensures.part) in
    always c.from_residual.result part

pub returns-clause-whole : goal.returns-clause-whole
returns-clause-whole g c =
    let push = c.args.push.now in
    let head = c.as_slice.result.now in
    let before = g.P.Peer.given c.args.peer.now in
    let mid = g.P.Peer.given c.send_all.new.peer in
    let after = g.P.Peer.given c.send_all-2.new.peer in
    let is : head ≡ request_head (length push) = c.as_slice.ensures ∙ c.request_head-head.ensures.text in
    on_ok_weaker c.send_all-2.result
    (λ (done : after ≡ with_end mid push). subst (λ (h : List ℕ). after ≡ with_end before (h ++ push)) is (both before mid after head push c.in_ok-send_all.ensures.whole done))
    c.send_all-2.ensures.whole

pub returns-clause-part : goal.returns-clause-part
returns-clause-part g c =
    let push = c.args.push.now in
    let head = c.as_slice.result.now in
    let before = g.P.Peer.given c.args.peer.now in
    let mid = g.P.Peer.given c.send_all.new.peer in
    let after = g.P.Peer.given c.send_all-2.new.peer in
    let is : head ≡ request_head (length push) = c.as_slice.ensures ∙ c.request_head-head.ensures.text in
    on_err_weaker c.send_all-2.result
    (λ (part : GainsPart mid after push). subst (λ (h : List ℕ). GainsPart before after (h ++ push)) is (second_part before mid after head push c.in_ok-send_all.ensures.whole part))
    c.send_all-2.ensures.part
