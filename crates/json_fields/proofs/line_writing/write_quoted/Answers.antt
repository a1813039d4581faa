use Rattle.std.proofs.lemmas.Result.{on_ok_weaker}
use Rattle.json_fields.proofs.Plain.{as_it_is, between}
use Rattle.json_fields.proofs.line_writing.write_quoted.Goals as goal

pub returns : goal.returns
returns c =
    let bytes = c.args.bytes.now in
    on_ok_weaker c.push-2.result (λ e. between c.args.text.now c.push.new.self c.append.new.self c.push-2.new.self bytes c.in_ok-push.ensures.added c.in_ok-append.ensures.added e (as_it_is bytes c.requires)) c.push-2.ensures.added
