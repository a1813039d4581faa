use Rattle.std.proofs.Common.{sym, subst}
use Rattle.std.specs.Prelude.{Err}
use Rattle.git_object.specs.Repository.{Repository, empty_repository}
use Rattle.keeper_api.specs.Changes.{changed}
use Rattle.keeper_api.proofs.Coming.{as_before}
use Rattle.mirror.specs.Mirrors.{Compares}
use Rattle.mirror.specs.Reading.{BreaksAsOffered, OfferEnds}
use Rattle.mirror.specs.declared.mirror_faults.MirrorFault.{MirrorFault}
use Rattle.mirror.proofs.Offered.{made, refused, unmade}
use Rattle.mirror.proofs.mirroring.offer_change.Goals as goal

pub returns-in-Err-clause-ends : goal.returns-in-Err-clause-ends
returns-in-Err-clause-ends g c =
    subst (λ (fault : MirrorFault). OfferEnds g.R.Keeper c.args.kept.now c.args.kept.now (changed c.args.offered empty_repository) (Err fault)) (sym c.in-Err.ensures.memory)
    (as_before g.R.Keeper c.args.kept.now)

pub returns-in-Err-compared-clause-ends : goal.returns-in-Err-compared-clause-ends
returns-in-Err-compared-clause-ends g c =
    refused g.R.Keeper (changed c.args.offered empty_repository) c.args.kept.now c.compared.new.kept c.in-Err-compared.fault c.in-Err-compared.ensures.kept
    (subst (λ (r : Repository). BreaksAsOffered r c.in-Err-compared.fault) c.in-Ok.ensures.held c.in-Err-compared.ensures.offered) c.compared.ensures.same

pub returns-in-Ok-settle-clause-ends : goal.returns-in-Ok-settle-clause-ends
returns-in-Ok-settle-clause-ends g c =
    made g.R.Keeper (changed c.args.offered empty_repository) c.args.kept.now c.compared.new.kept c.settle.new.kept c.compared.ensures.same c.in-Ok-compared.offer
    (λ r told. subst (λ (held : Repository). Compares r held c.in-Ok-compared.offer) c.in-Ok.ensures.held (c.in-Ok-compared.ensures.compares r told))
    c.in-Ok-settle.ensures.settles

pub returns-clause-ends : goal.returns-clause-ends
returns-clause-ends g c =
    subst (λ (fault : MirrorFault). OfferEnds g.R.Keeper c.args.kept.now c.settle.new.kept (changed c.args.offered empty_repository) (Err fault)) (sym c.fault_of_keeper.ensures)
    (unmade g.R.Keeper (changed c.args.offered empty_repository) c.args.kept.now c.compared.new.kept c.settle.new.kept c.compared.ensures.same c.in-Ok-compared.offer c.in-Err-settle.fault
    (λ r told. subst (λ (held : Repository). Compares r held c.in-Ok-compared.offer) c.in-Ok.ensures.held (c.in-Ok-compared.ensures.compares r told))
    c.in-Err-settle.ensures.settles)
