use Rattle.desk_turns.proofs.Tips.{kept, may_have_kept}
use Rattle.desk_turns.proofs.settling.keep_tip.Goals as goal

pub returns-in-Ok-clause-keeps : goal.returns-in-Ok-clause-keeps
returns-in-Ok-clause-keeps g c = kept g.R.Keeper c.args.keeper.now c.commit_change.new.keeper c.args.value.now c.in_ok-change.change c.in_ok-change.ensures c.requires c.in-Ok.ensures.ends

pub returns-in-Err-Failed-clause-keeps : goal.returns-in-Err-Failed-clause-keeps
returns-in-Err-Failed-clause-keeps g c =
    may_have_kept g.R.Keeper c.args.keeper.now c.commit_change.new.keeper c.args.value.now c.in_ok-change.change c.in_ok-change.ensures c.requires (rw c.in-Err-Failed.field-0-is at c.in-Err-Failed.ensures.ends)
