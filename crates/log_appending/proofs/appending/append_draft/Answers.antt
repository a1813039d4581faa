use Rattle.log_appending.proofs.Ended.{unsigned}
use Rattle.log_appending.proofs.appending.append_draft.Goals as goal

pub returns-in-Err-clause-ends : goal.returns-in-Err-clause-ends
returns-in-Err-clause-ends g c = unsigned g.R.Keeper g.D.Disk c.args.key.signer.secret c.args.draft.now c.args.keeper.now c.args.disk.now c.sign_draft.new.disk c.in-Err.fault c.in-Err.ensures.ends
