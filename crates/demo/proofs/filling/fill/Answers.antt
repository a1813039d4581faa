use Rattle.std.proofs.Common.{◌≡◌, ◌↔◌, Bool, subst}
use Rattle.std.specs.Prelude.{IsTrue, Some, Err}
use Rattle.git_object.specs.Repository.{Repository, empty_repository}
use Rattle.keeper_api.specs.declared.keeper_faults.KeeperFault.{KeeperFault}
use Rattle.keeper_api.specs.Committing.{ChangeEnds}
use Rattle.demo.proofs.FilledStores.{filled, may_be_filled}
use Rattle.demo.proofs.filling.fill.Goals as goal

pub returns-in-Ok-commit_change-clause-ends : goal.returns-in-Ok-commit_change-clause-ends
returns-in-Ok-commit_change-clause-ends g c =
    filled c.args.count g.R.Keeper c.args.keeper.now c.is_empty.new.keeper c.commit_change.new.keeper c.is_empty.ensures.same
    (subst (λ (b : Bool). (r : Repository) → g.R.Keeper.content c.is_empty.new.keeper ≡ Some r → IsTrue b ↔ (r ≡ empty_repository)) c.in-Ok-true.field-0-test c.in-Ok-true.ensures.answer)
    c.in-Ok.change c.in-Ok.ensures c.in-Ok-commit_change.ensures.ends

pub returns-in-Err-Failed-commit_change-clause-ends : goal.returns-in-Err-Failed-commit_change-clause-ends
returns-in-Err-Failed-commit_change-clause-ends g c =
    may_be_filled c.args.count g.R.Keeper c.args.keeper.now c.is_empty.new.keeper c.commit_change.new.keeper c.is_empty.ensures.same
    (subst (λ (b : Bool). (r : Repository) → g.R.Keeper.content c.is_empty.new.keeper ≡ Some r → IsTrue b ↔ (r ≡ empty_repository)) c.in-Ok-true.field-0-test c.in-Ok-true.ensures.answer)
    c.in-Ok.change c.in-Ok.ensures
    (subst (λ (f : KeeperFault). ChangeEnds g.R.Keeper c.is_empty.new.keeper c.commit_change.new.keeper c.in-Ok.change (Err f)) c.in-Err-Failed-commit_change.field-0-is c.in-Err-Failed-commit_change.ensures.ends)
