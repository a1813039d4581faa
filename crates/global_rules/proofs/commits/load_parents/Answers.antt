use Rattle.std.proofs.Common.{sym, subst, ◌∙◌, ap, inl, inr, List, ℕ, Some}
use Rattle.git_object.specs.Commits.{IsCommitFault, IsCommitText}
use Rattle.git_object.specs.Faults.{Refuses}
use Rattle.git_object.specs.Repository.{HasObject}
use Rattle.tree_paths.proofs.ObjectsRead.{none_at, some_at}
use Rattle.global_rules.proofs.CommitsRead.{bad, missing, other, there}
use Rattle.global_rules.proofs.commits.load_parents.Goals as goal

pub returns-in_default-clause-read : goal.returns-in_default-clause-read
returns-in_default-clause-read g c = λ r told.
    sym (missing r c.args.id.now (none_at c.in_ok-object.field-0 (c.in_ok-object.ensures.none r told) c.in_default.is))

pub returns-in-Ok-clause-read : goal.returns-in-Ok-clause-read
returns-in-Ok-clause-read g c = λ r told.
    let id = c.args.id.now in
    let has : HasObject r id c.in-Some.object = some_at (HasObject r id) c.in_ok-object.field-0 c.in-Some.object (c.in_ok-object.ensures.found r told) c.in-Some.is in
    ap (λ (ids : List (List ℕ)). Some ids) c.parents_in.ensures
    ∙ sym (there r id c.in-Some.object c.in-Ok.commit has (sym c.kind.ensures ∙ c.in-Commit.is) (subst (IsCommitText c.in-Ok.commit) c.body.ensures c.in-Ok.ensures.found))

pub returns-in-Err-Malformed-clause-read : goal.returns-in-Err-Malformed-clause-read
returns-in-Err-Malformed-clause-read g c = λ r told.
    let id = c.args.id.now in
    let has : HasObject r id c.in-Some.object = some_at (HasObject r id) c.in_ok-object.field-0 c.in-Some.object (c.in_ok-object.ensures.found r told) c.in-Some.is in
    sym (bad r id c.in-Some.object c.in-Err-Malformed.field-0-0 has (sym c.kind.ensures ∙ c.in-Commit.is)
    (subst (λ (text : List ℕ). IsCommitFault text c.in-Err-Malformed.field-0-0) c.body.ensures (subst (Refuses IsCommitFault c.body.result.now) c.in-Err-Malformed.field-0-is c.in-Err-Malformed.ensures.bad)))

pub returns-clause-read : goal.returns-clause-read
returns-clause-read g c = λ r told.
    let id = c.args.id.now in
    let has : HasObject r id c.in-Some.object = some_at (HasObject r id) c.in_ok-object.field-0 c.in-Some.object (c.in_ok-object.ensures.found r told) c.in-Some.is in
    sym (other r id c.in-Some.object has (λ e. elim c.in-Blob.is [ inl b ↦ (let f = sym b ∙ c.kind.ensures ∙ e in cc) | inr more ↦ elim more [ inl b ↦ (let f = sym b ∙ c.kind.ensures ∙ e in cc) | inr b ↦ (let f = sym b ∙ c.kind.ensures ∙ e in cc) ] ]))
