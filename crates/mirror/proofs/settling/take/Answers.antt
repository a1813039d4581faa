use Rattle.std.proofs.Common.{sym, subst}
use Rattle.git_object.specs.Repository.{Repository, empty_repository}
use Rattle.keeper_api.specs.Changes.{changed}
use Rattle.keeper_api.specs.declared.changes.Change.{Change}
use Rattle.mirror.specs.Changes.{take_change}
use Rattle.mirror.specs.Mirrors.{Takes}
use Rattle.mirror.proofs.Settled.{settled, unsettled}
use Rattle.mirror.proofs.Taking.{takes}
use Rattle.mirror.proofs.settling.take.Goals as goal

pub returns-in-Err-clause-settles : goal.returns-in-Err-clause-settles
returns-in-Err-clause-settles g c =
    unsettled g.R.Keeper (Takes (changed c.args.offered empty_repository)) c.args.kept.now c.take_change.new.kept c.in-Err.fault c.take_change.ensures.same

pub returns-clause-settles : goal.returns-clause-settles
returns-clause-settles g c =
    settled g.R.Keeper (Takes (changed c.args.offered empty_repository)) c.args.kept.now c.take_change.new.kept c.commit_change.new.keeper c.in-Ok.change
    c.take_change.ensures.same
    (λ r told. subst (λ (change : Change). Takes (changed c.args.offered empty_repository) r (changed change r)) (sym (c.in-Ok.ensures.change r told))
    (subst (λ (held : Repository). Takes (changed c.args.offered empty_repository) r (changed (take_change c.args.offered held.objects r) r)) (sym c.requires)
    (takes c.args.offered r)))
    c.commit_change.result c.commit_change.ensures.ends
