use Rattle.std.proofs.Common.{◌≡◌, ℕ, List, ◌∙◌, ap, subst}
use Rattle.std.specs.Prelude.{OnErr, Option, Result, Ok, Err}
use Rattle.octets.specs.Content.{GainsPart, with_end}
use Rattle.desk_messages.specs.Reading.{HasFront}
use Rattle.desk_messages.specs.Requests.{request_text}
use Rattle.desk_messages.proofs.Stopping.{sent, sent_in_part, unsent}
use Rattle.desk_messages.proofs.asking.ask_desk.Goals as goal

always : {T E P : Type 0} (r : Result T E) → P → OnErr r P
always (Ok x) p = tt
always (Err e) p = p

pub returns-in_err-connect-clause-stopped : goal.returns-in_err-connect-clause-stopped
returns-in_err-connect-clause-stopped g c =
    let given = g.P.Peer.given in
    let left = g.P.Peer.left in
    let old = c.args.peer.now in
    let new = c.connect.new.self in
    always c.from_residual.result
    (unsent (given old) (given new) (left old) (left new) c.args.push.now c.connect.ensures.unwritten c.connect.ensures.unread)

pub returns-in_err-send_push-clause-stopped : goal.returns-in_err-send_push-clause-stopped
returns-in_err-send_push-clause-stopped g c =
    let given = g.P.Peer.given in
    let left = g.P.Peer.left in
    let old = c.args.peer.now in
    let new = c.send_push.new.peer in
    let request = request_text c.args.push.now in
    always c.from_residual-in_err-send_push.result
    (sent_in_part (given old) (given new) (left old) (left new) c.args.push.now
    (subst (λ (before : Option (List ℕ)). GainsPart before (given new) request) c.connect.ensures.unwritten c.in_err-send_push.ensures.part)
    (c.send_push.ensures.unread ∙ c.connect.ensures.unread))

pub returns-in_err-len-clause-stopped : goal.returns-in_err-len-clause-stopped
returns-in_err-len-clause-stopped g c =
    let given = g.P.Peer.given in
    let left = g.P.Peer.left in
    let old = c.args.peer.now in
    let new = c.receive.new.peer in
    let request = request_text c.args.push.now in
    always c.from_residual-in_err-len.result
    (sent (given old) (given new) (left old) (left new) c.args.push.now
    (c.receive.ensures.unwritten ∙ c.in_ok-send_push.ensures.whole ∙ ap (λ (before : Option (List ℕ)). with_end before request) c.connect.ensures.unwritten)
    (subst (λ (before : Option (List ℕ)). HasFront before (left new)) (c.send_push.ensures.unread ∙ c.connect.ensures.unread) c.in_err-len.ensures.failed))
