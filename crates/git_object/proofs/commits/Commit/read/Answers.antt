use Rattle.std.proofs.Common.{List, ℕ, sym, subst, ◌∙◌, inr}
use Rattle.std.proofs.lemmas.Bool.{false≢true}
use Rattle.std.specs.Prelude.{codes}
use Rattle.git_object.specs.Commits.{IsCommitText}
use Rattle.git_object.proofs.CommitLemmas.{bad_parent_there, commit_read, commit_there}
use Rattle.git_object.proofs.LineLemmas.{line_shorter}
use Rattle.git_object.proofs.commits.Commit.read.Goals as goal

pub returns-then-begins_with-clause-bad : goal.returns-then-begins_with-clause-bad
returns-then-begins_with-clause-bad c =
    inr (bad_parent_there c.in-Some.first.0 c.args.body.now c.in-Some.first.1.now c.after_parents-end.result.now c.in-Some.ensures.valid c.in-Some.ensures.found
    c.after_parents-end.ensures.lines (c.begins_with.ensures.0 c.if-begins_with.true) c.after_parents-end.ensures.last)

pub parents-smaller : goal.parents-smaller
parents-smaller c = line_shorter (codes "parent ") c.in-Some-split_id_line.line.0 c.in-Some-split_id_line.line.1.now c.parents.rest.now c.in-Some-split_id_line.ensures.found

pub returns-in_err-push-clause-formed : goal.returns-in_err-push-clause-formed
returns-in_err-push-clause-formed c _ =
    commit_there c.in-Some.first.0 c.args.body.now c.in-Some.first.1.now c.after_parents-end.result.now c.in-Some.ensures.valid c.in-Some.ensures.found
    c.after_parents-end.ensures.lines (λ more begins. false≢true (sym c.if-begins_with.false ∙ c.begins_with.ensures.1 (more, begins)))

pub returns-in_err-rest-clause-formed : goal.returns-in_err-rest-clause-formed
returns-in_err-rest-clause-formed c _ =
    commit_there c.in-Some.first.0 c.args.body.now c.in-Some.first.1.now c.after_parents-end.result.now c.in-Some.ensures.valid c.in-Some.ensures.found
    c.after_parents-end.ensures.lines (λ more begins. false≢true (sym c.if-begins_with.false ∙ c.begins_with.ensures.1 (more, begins)))

pub returns-clause-found : goal.returns-clause-found
returns-clause-found c =
    subst (λ (rest : List ℕ). IsCommitText (record { tree = c.in-Some.first.0; parents = c.parents.parents; rest = rest }) c.args.body.now) (sym c.in_ok-rest.ensures)
    (commit_read c.in-Some.first.0 c.parents.parents c.args.body.now c.in-Some.first.1.now c.parents.rest.now c.after_parents-end.result.now c.in-Some.ensures.valid c.in-Some.ensures.found
    c.after_parents-end.ensures.lines (λ more begins. false≢true (sym c.if-begins_with.false ∙ c.begins_with.ensures.1 (more, begins)))
    c.parents.invariant c.in_default-split_id_line.ensures.none)
