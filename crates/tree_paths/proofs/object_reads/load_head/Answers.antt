use Rattle.std.proofs.Common.{sym, subst, ◌∙◌, inl, inr, List, ℕ}
use Rattle.git_object.specs.Faults.{Refuses}
use Rattle.git_object.specs.Repository.{HasObject}
use Rattle.git_object.specs.Commits.{IsCommitFault, IsCommitText}
use Rattle.git_object.specs.Tags.{IsTagFault, IsTagText}
use Rattle.tree_paths.proofs.ObjectsRead.{commit_bad, commit_there, head_missing, head_other, none_at, some_at, tag_bad, tag_there}
use Rattle.tree_paths.proofs.object_reads.load_head.Goals as goal

pub returns-in_default-clause-read : goal.returns-in_default-clause-read
returns-in_default-clause-read g c = λ readings told.
    let id = c.args.id.now in
    head_missing told.repository id (readings.heads id) (none_at c.in_ok-object.field-0 (c.in_ok-object.ensures.none told.repository told.told) c.in_default.is) (told.are.heads id)

pub returns-in-Ok-clause-read : goal.returns-in-Ok-clause-read
returns-in-Ok-clause-read g c = λ readings told.
    let id = c.args.id.now in
    let has : HasObject told.repository id c.in-Some.object = some_at (HasObject told.repository id) c.in_ok-object.field-0 c.in-Some.object (c.in_ok-object.ensures.found told.repository told.told) c.in-Some.is in
    commit_there told.repository id c.in-Some.object c.in-Ok.commit (readings.heads id) has (sym c.kind.ensures ∙ c.in-Commit.is)
    (subst (IsCommitText c.in-Ok.commit) c.body.ensures c.in-Ok.ensures.found) (told.are.heads id)

pub returns-in-Err-Malformed-clause-read : goal.returns-in-Err-Malformed-clause-read
returns-in-Err-Malformed-clause-read g c = λ readings told.
    let id = c.args.id.now in
    let has : HasObject told.repository id c.in-Some.object = some_at (HasObject told.repository id) c.in_ok-object.field-0 c.in-Some.object (c.in_ok-object.ensures.found told.repository told.told) c.in-Some.is in
    commit_bad told.repository id c.in-Some.object c.in-Err-Malformed.field-0-0 (readings.heads id) has (sym c.kind.ensures ∙ c.in-Commit.is)
    (subst (λ (text : List ℕ). IsCommitFault text c.in-Err-Malformed.field-0-0) c.body.ensures (subst (Refuses IsCommitFault c.body.result.now) c.in-Err-Malformed.field-0-is c.in-Err-Malformed.ensures.bad)) (told.are.heads id)

pub returns-in-Ok-read-clause-read : goal.returns-in-Ok-read-clause-read
returns-in-Ok-read-clause-read g c = λ readings told.
    let id = c.args.id.now in
    let has : HasObject told.repository id c.in-Some.object = some_at (HasObject told.repository id) c.in_ok-object.field-0 c.in-Some.object (c.in_ok-object.ensures.found told.repository told.told) c.in-Some.is in
    tag_there told.repository id c.in-Some.object c.in-Ok-read.tag (readings.heads id) has (sym c.kind.ensures ∙ c.in-Tag.is)
    (subst (IsTagText c.in-Ok-read.tag) c.body-in-Tag.ensures c.in-Ok-read.ensures.found) (told.are.heads id)

pub returns-in-Err-Malformed-read-clause-read : goal.returns-in-Err-Malformed-read-clause-read
returns-in-Err-Malformed-read-clause-read g c = λ readings told.
    let id = c.args.id.now in
    let has : HasObject told.repository id c.in-Some.object = some_at (HasObject told.repository id) c.in_ok-object.field-0 c.in-Some.object (c.in_ok-object.ensures.found told.repository told.told) c.in-Some.is in
    tag_bad told.repository id c.in-Some.object c.in-Err-Malformed-read.field-0-0 (readings.heads id) has (sym c.kind.ensures ∙ c.in-Tag.is)
    (subst (λ (text : List ℕ). IsTagFault text c.in-Err-Malformed-read.field-0-0) c.body-in-Tag.ensures (subst (Refuses IsTagFault c.body-in-Tag.result.now) c.in-Err-Malformed-read.field-0-is c.in-Err-Malformed-read.ensures.bad)) (told.are.heads id)

pub returns-clause-read : goal.returns-clause-read
returns-clause-read g c = λ readings told.
    let id = c.args.id.now in
    let has : HasObject told.repository id c.in-Some.object = some_at (HasObject told.repository id) c.in_ok-object.field-0 c.in-Some.object (c.in_ok-object.ensures.found told.repository told.told) c.in-Some.is in
    head_other told.repository id c.in-Some.object (readings.heads id) has (λ e. elim c.in-Blob.is [ inl b ↦ (let f = sym b ∙ c.kind.ensures ∙ e in cc) | inr b ↦ (let f = sym b ∙ c.kind.ensures ∙ e in cc) ]) (λ e. elim c.in-Blob.is [ inl b ↦ (let f = sym b ∙ c.kind.ensures ∙ e in cc) | inr b ↦ (let f = sym b ∙ c.kind.ensures ∙ e in cc) ]) (told.are.heads id)
