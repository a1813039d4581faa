use Rattle.std.proofs.Common.{◌≡◌, refl, sym, subst}
use Rattle.std.proofs.lemmas.Option.{same_Some}
use Rattle.git_object.specs.Repository.{Repository}
use Rattle.mirror.specs.Faults.{fault_of_offered}
use Rattle.mirror.specs.Reading.{BreaksAsOffered}
use Rattle.mirror.specs.declared.mirror_faults.MirrorFault.{MirrorFault}
use Rattle.mirror.proofs.Compared.{broken_offered}
use Rattle.mirror.proofs.mirroring.offered_log.Goals as goal

pub returns-in-Ok-clause-same : goal.returns-in-Ok-clause-same
returns-in-Ok-clause-same c =
    sym (same_Some c.args.held.now.held c.load.new.keeper.held (c.load.ensures.same.content c.load.new.keeper.held refl))

pub returns-in-Err-clause-same : goal.returns-in-Err-clause-same
returns-in-Err-clause-same c =
    sym (same_Some c.args.held.now.held c.load.new.keeper.held (c.load.ensures.same.content c.load.new.keeper.held refl))

pub returns-in-Err-clause-broken : goal.returns-in-Err-clause-broken
returns-in-Err-clause-broken c =
    let now = c.load.new.keeper.held in
    let same : c.args.held.now.held ≡ now = same_Some c.args.held.now.held now (c.load.ensures.same.content now refl) in
    subst (λ (fault : MirrorFault). BreaksAsOffered c.args.held.now.held fault) (sym c.fault_of_offered.ensures)
    (subst (λ (r : Repository). BreaksAsOffered r (fault_of_offered c.in-Err.fault)) (sym same) (broken_offered now c.in-Err.fault (c.in-Err.ensures.broken now refl)))
