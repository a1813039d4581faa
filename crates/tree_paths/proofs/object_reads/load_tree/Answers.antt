use Rattle.std.proofs.Common.{sym, subst, ◌∙◌, inl, inr, List, ℕ}
use Rattle.git_object.specs.Faults.{Refuses}
use Rattle.git_object.specs.Repository.{HasObject}
use Rattle.git_object.specs.Trees.{IsTreeFault, IsTreeText}
use Rattle.tree_paths.proofs.ObjectsRead.{none_at, some_at, tree_bad, tree_missing, tree_other, tree_there}
use Rattle.tree_paths.proofs.object_reads.load_tree.Goals as goal

pub returns-in_default-clause-read : goal.returns-in_default-clause-read
returns-in_default-clause-read g c = λ readings told.
    let id = c.args.id.now in
    tree_missing told.repository id (readings.trees id) (none_at c.in_ok-object.field-0 (c.in_ok-object.ensures.none told.repository told.told) c.in_default.is) (told.are.trees id)

pub returns-in-Ok-clause-read : goal.returns-in-Ok-clause-read
returns-in-Ok-clause-read g c = λ readings told.
    let id = c.args.id.now in
    let has : HasObject told.repository id c.in-Some.object = some_at (HasObject told.repository id) c.in_ok-object.field-0 c.in-Some.object (c.in_ok-object.ensures.found told.repository told.told) c.in-Some.is in
    tree_there told.repository id c.in-Some.object c.in-Ok.tree.entries (readings.trees id) has (sym c.kind.ensures ∙ c.in-Tree.is)
    (subst (IsTreeText c.in-Ok.tree) c.body.ensures c.in-Ok.ensures.found) (told.are.trees id)

pub returns-in-Err-Malformed-clause-read : goal.returns-in-Err-Malformed-clause-read
returns-in-Err-Malformed-clause-read g c = λ readings told.
    let id = c.args.id.now in
    let has : HasObject told.repository id c.in-Some.object = some_at (HasObject told.repository id) c.in_ok-object.field-0 c.in-Some.object (c.in_ok-object.ensures.found told.repository told.told) c.in-Some.is in
    tree_bad told.repository id c.in-Some.object c.in-Err-Malformed.field-0-0 (readings.trees id) has
    (subst (λ (text : List ℕ). IsTreeFault text c.in-Err-Malformed.field-0-0) c.body.ensures (subst (Refuses IsTreeFault c.body.result.now) c.in-Err-Malformed.field-0-is c.in-Err-Malformed.ensures.bad)) (told.are.trees id)

pub returns-clause-read : goal.returns-clause-read
returns-clause-read g c = λ readings told.
    let id = c.args.id.now in
    let has : HasObject told.repository id c.in-Some.object = some_at (HasObject told.repository id) c.in_ok-object.field-0 c.in-Some.object (c.in_ok-object.ensures.found told.repository told.told) c.in-Some.is in
    tree_other told.repository id c.in-Some.object (readings.trees id) has (λ e. elim c.in-Blob.is [ inl b ↦ (let f = sym b ∙ c.kind.ensures ∙ e in cc) | inr more ↦ elim more [ inl b ↦ (let f = sym b ∙ c.kind.ensures ∙ e in cc) | inr b ↦ (let f = sym b ∙ c.kind.ensures ∙ e in cc) ] ]) (told.are.trees id)
