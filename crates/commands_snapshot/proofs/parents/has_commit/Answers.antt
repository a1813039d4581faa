use Rattle.std.proofs.Common.{◌∙◌, ◌↔◌, ℕ, List, ap, sym, subst}
use Rattle.std.proofs.lemmas.Bool.{false≢true}
use Rattle.std.specs.Prelude.{IfNone, IfSome, IsTrue, Option}
use Rattle.git_object.specs.Commits.{IsCommit}
use Rattle.commands_snapshot.specs.Parents.{is_commit}
use Rattle.git_object.specs.Objects.{Pair}
use Rattle.git_object.specs.Repository.{HasObject}
use Rattle.commands_snapshot.proofs.CommitAt.{by_body, other_kind}
use Rattle.commands_snapshot.proofs.parents.has_commit.Goals as goal

pub returns-in_default-clause-has : goal.returns-in_default-clause-has
returns-in_default-clause-has g c = λ r held.
    let none = subst (λ (f : Option Pair). IfNone f ((pair : Pair) → HasObject r c.args.id.now pair → ⊥)) c.in_default.is (c.in_ok-object.ensures.none r held) in
    (λ yes. absurd (false≢true yes), λ has. absurd (none has.pair has.kept))

pub returns-then-not-is_commit-clause-has : goal.returns-then-not-is_commit-clause-has
returns-then-not-is_commit-clause-has g c = λ r held.
    let kept = subst (λ (f : Option Pair). IfSome f (HasObject r c.args.id.now)) c.in-Some.is (c.in_ok-object.ensures.found r held) in
    (λ yes. absurd (false≢true yes), λ has. absurd (other_kind r c.args.id.now c.in-Some.object kept (sym (c.if-not-is_commit.ensures ∙ ap is_commit c.kind.ensures)) has))

pub returns-in-Ok-clause-has : goal.returns-in-Ok-clause-has
returns-in-Ok-clause-has g c = λ r held.
    let kept = subst (λ (f : Option Pair). IfSome f (HasObject r c.args.id.now)) c.in-Some.is (c.in_ok-object.ensures.found r held) in
    by_body r c.args.id.now c.in-Some.object kept c.in-Ok.reads (sym (c.if-not-is_commit.ensures ∙ ap is_commit c.kind.ensures))
    (subst (λ (body : List ℕ). IsTrue c.in-Ok.reads ↔ IsCommit body) c.body.ensures c.in-Ok.ensures)
