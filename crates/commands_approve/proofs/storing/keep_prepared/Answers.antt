use Rattle.std.proofs.Common.{refl, subst}
use Rattle.std.specs.Prelude.{Err}
use Rattle.keeper_api.specs.declared.keeper_faults.KeeperFault.{KeeperFault}
use Rattle.keeper_api.specs.Committing.{ChangeEnds}
use Rattle.commands_approve.proofs.Moved.{kept, may_be_kept, unsigned}
use Rattle.commands_approve.proofs.storing.keep_prepared.Goals as goal

pub returns-in-Err-clause-ends : goal.returns-in-Err-clause-ends
returns-in-Err-clause-ends g c =
    unsigned g.R.Keeper g.D.Disk c.args.name.now c.args.prepared.ends c.args.prepared.envelope c.args.key.signer.secret c.args.keeper.now c.args.disk.now c.sign_prepared.new.disk c.args.seconds c.args.prepared.site
    c.in-Err.fault c.in-Err.ensures.ends

pub returns-in-Ok-commit_change-clause-ends : goal.returns-in-Ok-commit_change-clause-ends
returns-in-Ok-commit_change-clause-ends g c = (
  kept g.R.Keeper g.D.Disk c.args.name.now c.args.prepared.ends c.args.prepared.envelope c.args.key.signer.secret c.args.keeper.now c.commit_change.new.keeper c.args.disk.now c.sign_prepared.new.disk c.args.seconds
      c.args.prepared.site c.in-Ok.attested c.requires.site c.in-Ok.ensures.ends c.in-Ok-commit_change.ensures.ends,
  refl,
)

pub returns-in-Err-Failed-clause-ends : goal.returns-in-Err-Failed-clause-ends
returns-in-Err-Failed-clause-ends g c =
    may_be_kept g.R.Keeper g.D.Disk c.args.name.now c.args.prepared.ends c.args.prepared.envelope c.args.key.signer.secret c.args.keeper.now c.commit_change.new.keeper c.args.disk.now c.sign_prepared.new.disk c.args.seconds
    c.args.prepared.site c.in-Ok.attested c.requires.site c.in-Ok.ensures.ends
    (subst (λ (f : KeeperFault). ChangeEnds g.R.Keeper c.args.keeper.now c.commit_change.new.keeper c.in-Ok.attested.change (Err f)) c.in-Err-Failed.field-0-is c.in-Err-Failed.ensures.ends)
