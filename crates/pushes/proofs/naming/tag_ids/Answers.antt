use Rattle.std.proofs.Common.{◌≡◌, ◌∷◌, [], sym, ◌∙◌, rules}
use Rattle.pushes.proofs.Names.{tag_bad, tag_is}
use Rattle.pushes.proofs.naming.tag_ids.Goals as goal

pub returns-in_ok-push-in-Ok : goal.returns-in_ok-push-in-Ok
returns-in_ok-push-in-Ok c =
    let e : c.push.new.self.items ≡ c.in-Ok.tag.object ∷ [] = search rules in
    e ∙ sym (tag_is c.in-Ok.tag c.args.body.now c.in-Ok.ensures.found)

pub returns-in-Err-Malformed : goal.returns-in-Err-Malformed
returns-in-Err-Malformed c =
    let e : c.new.result.items ≡ [] = search rules in
    e ∙ sym (tag_bad c.args.body.now c.in-Err-Malformed.field-0-0 (rw c.in-Err-Malformed.field-0-is at c.in-Err-Malformed.ensures.bad))
