use Rattle.std.proofs.Common.{◌≡◌, ◌∷◌, [], sym, ◌∙◌, rules}
use Rattle.pushes.proofs.Names.{commit_bad, commit_is}
use Rattle.pushes.proofs.naming.commit_ids.Goals as goal

pub returns-in_ok-extend_from_slice-in-Ok : goal.returns-in_ok-extend_from_slice-in-Ok
returns-in_ok-extend_from_slice-in-Ok c =
    let e : c.extend_from_slice.new.self.items ≡ c.in-Ok.commit.tree ∷ c.in-Ok.commit.parents = search rules in
    e ∙ sym (commit_is c.in-Ok.commit c.args.body.now c.in-Ok.ensures.found)

pub returns-in-Err-Malformed : goal.returns-in-Err-Malformed
returns-in-Err-Malformed c =
    let e : c.new.result.items ≡ [] = search rules in
    e ∙ sym (commit_bad c.args.body.now c.in-Err-Malformed.field-0-0 (rw c.in-Err-Malformed.field-0-is at c.in-Err-Malformed.ensures.bad))
