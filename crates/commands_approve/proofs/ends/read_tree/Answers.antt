use Rattle.std.proofs.Common.{◌∙◌, arith, refl, subst, sym}
use Rattle.tree_paths.specs.Repositories.{readings_of}
use Rattle.tree_paths.specs.declared.states.State.{State}
use Rattle.approvals.proofs.Finding.{told_by}
use Rattle.commands_approve.specs.Ends.{TreeIs}
use Rattle.commands_approve.proofs.ends.read_tree.Goals as goal

pub returns-in-Absent-clause-tree : goal.returns-in-Absent-clause-tree
returns-in-Absent-clause-tree g c = λ r told.
    subst (λ (s : State). TreeIs s c.zeros.result) (sym c.in-Absent.is ∙ c.in_ok-state_of.ensures.state (readings_of r) (told_by r told)) c.zeros.ensures

pub returns-in-Whole-clause-tree : goal.returns-in-Whole-clause-tree
returns-in-Whole-clause-tree g c = λ r told.
    subst (λ (s : State). TreeIs s c.in-Whole.tree) (sym c.in-Whole.is ∙ c.in_ok-state_of.ensures.state (readings_of r) (told_by r told)) refl

pub returns-in-Broken-clause-broken : goal.returns-in-Broken-clause-broken
returns-in-Broken-clause-broken g c = λ r told. sym (c.in_ok-state_of.ensures.state (readings_of r) (told_by r told)) ∙ c.in-Broken.is

pub returns-in_err-state_of-clause-reads : goal.returns-in_err-state_of-clause-reads
returns-in_err-state_of-clause-reads g c = λ r told. omega (arith, c.state_of.ensures.visited (readings_of r) (told_by r told))

pub returns-in-Absent-clause-reads : goal.returns-in-Absent-clause-reads
returns-in-Absent-clause-reads g c = λ r told. omega (arith, c.state_of.ensures.visited (readings_of r) (told_by r told))

pub returns-in-Whole-clause-reads : goal.returns-in-Whole-clause-reads
returns-in-Whole-clause-reads g c = λ r told. omega (arith, c.state_of.ensures.visited (readings_of r) (told_by r told))

pub returns-in-Broken-clause-reads : goal.returns-in-Broken-clause-reads
returns-in-Broken-clause-reads g c = λ r told. omega (arith, c.state_of.ensures.visited (readings_of r) (told_by r told))
