use Rattle.std.proofs.Common.{refl, sym, subst}
use Rattle.std.specs.Prelude.{Err}
use Rattle.keeper_api.specs.declared.keeper_faults.KeeperFault.{KeeperFault}
use Rattle.commands_snapshot.proofs.Stored.{may_be_stored, stored, unstored}
use Rattle.commands_snapshot.specs.Storing.{CommitEnds, RefusesStoring}
use Rattle.commands_snapshot.specs.declared.storing.StoringFault.{StoringFault}
use Rattle.commands_snapshot.proofs.storing.store_snapshot.Goals as goal

pub returns-in-Err-clause-ends : goal.returns-in-Err-clause-ends
returns-in-Err-clause-ends g c =
    let left = g.C.Clock.left c.args.clock.now in
    subst (λ (fault : StoringFault). RefusesStoring g.R.Keeper c.args.name.now c.args.made left left c.args.keeper.now c.read_parent.new.keeper fault) (sym c.no_parent.ensures)
    (unstored g.R.Keeper c.args.name.now c.args.made left left c.args.keeper.now c.read_parent.new.keeper c.in-Err.ensures.same refl c.in-Err.fault c.in-Err.ensures.why)

pub returns-in-Ok-commit_made-clause-ends : goal.returns-in-Ok-commit_made-clause-ends
returns-in-Ok-commit_made-clause-ends g c =
    stored g.R.Keeper c.args.name.now c.args.made (g.C.Clock.left c.args.clock.now) (g.C.Clock.left c.seconds.new.self) c.args.keeper.now c.read_parent.new.keeper c.commit_made.new.keeper c.in-Ok.ensures.same
    c.in-Ok.parent c.in-Ok.ensures.parent c.in-Ok-seconds.seconds c.in-Ok-seconds.ensures.moment c.in-Ok-commit_made.id c.in-Ok-commit_made.ensures.ends.0 c.in-Ok-commit_made.ensures.ends.1

pub returns-in-Err-Failed-clause-ends : goal.returns-in-Err-Failed-clause-ends
returns-in-Err-Failed-clause-ends g c =
    may_be_stored g.R.Keeper c.args.name.now c.args.made (g.C.Clock.left c.args.clock.now) (g.C.Clock.left c.seconds.new.self) c.args.keeper.now c.read_parent.new.keeper c.commit_made.new.keeper c.in-Ok.ensures.same
    c.in-Ok.parent c.in-Ok.ensures.parent c.in-Ok-seconds.seconds c.in-Ok-seconds.ensures.moment
    (subst (λ (f : KeeperFault). CommitEnds g.R.Keeper c.args.name.now c.args.made c.in-Ok.parent c.in-Ok-seconds.seconds c.read_parent.new.keeper c.commit_made.new.keeper (Err f)) c.in-Err-Failed.field-0-is c.in-Err-Failed.ensures.ends)
