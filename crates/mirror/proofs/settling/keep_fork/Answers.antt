use Rattle.std.proofs.Common.{sym, subst}
use Rattle.keeper_api.specs.Changes.{changed}
use Rattle.keeper_api.specs.declared.changes.Change.{Change}
use Rattle.keeper_api.proofs.Coming.{as_before}
use Rattle.mirror.specs.Mirrors.{Forks}
use Rattle.mirror.proofs.Settled.{settled}
use Rattle.mirror.proofs.Taking.{forks}
use Rattle.mirror.proofs.settling.keep_fork.Goals as goal

pub returns-clause-settles : goal.returns-clause-settles
returns-clause-settles g c = λ offered has.
    settled g.R.Keeper (Forks offered c.args.number c.args.id.now) c.args.kept.now c.args.kept.now c.commit_change.new.keeper c.in_ok-change.change
    (as_before g.R.Keeper c.args.kept.now)
    (λ r told. subst (λ (change : Change). Forks offered c.args.number c.args.id.now r (changed change r)) (sym c.in_ok-change.ensures)
    (forks offered r c.args.number c.args.id.now c.args.entry has))
    c.commit_change.result c.commit_change.ensures.ends
