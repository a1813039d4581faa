use Rattle.keeper_api.proofs.Committed.{gained, may_gain}
use Rattle.keeper_api.proofs.store_changes.commit_change.Goals as goal

pub returns-in-Ok-clause-ends : goal.returns-in-Ok-clause-ends
returns-in-Ok-clause-ends g c = gained g.R.Keeper c.args.keeper.now c.commit.new.self c.args.change.now (c.in-Ok.ensures.content, c.in-Ok.ensures.left)

pub returns-in-Err-Failed-clause-ends : goal.returns-in-Err-Failed-clause-ends
returns-in-Err-Failed-clause-ends g c =
    may_gain g.R.Keeper c.args.keeper.now c.commit.new.self c.args.change.now c.in-Err-Failed.field-0 c.in-Err-Failed.field-0-is c.in-Err-Failed.ensures.content c.in-Err-Failed.ensures.left
