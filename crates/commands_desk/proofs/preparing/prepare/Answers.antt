use Rattle.std.proofs.Common.{ℕ, List, Err, sym, subst}
use Rattle.git_object.specs.Repository.{Repository}
use Rattle.commands_desk.specs.Preparing.{Prepares, StandsAt}
use Rattle.commands_desk.specs.declared.faults.PushFault.{PushFault}
use Rattle.commands_desk.proofs.Prepared.{no_entry, unmade}
use Rattle.commands_desk.proofs.preparing.prepare.Goals as goal

pub returns-in_default-clause-prepares : goal.returns-in_default-clause-prepares
returns-in_default-clause-prepares g c =
    no_entry (g.R.Keeper.content c.load.new.keeper) c.args.number c.in-Ok.log.ids c.in-Ok.ensures.log
    (subst (λ (ids : List (List ℕ)). (before : List (List ℕ)) (id : List ℕ) → StandsAt ids c.args.number before id → ⊥) c.as_slice.ensures c.in_default.ensures.none)

pub returns-clause-prepares : goal.returns-clause-prepares
returns-clause-prepares g c =
    let at = subst (λ (ids : List (List ℕ)). StandsAt ids c.args.number c.in-Some.before.now c.in-Some.id.now) c.as_slice.ensures c.in-Some.ensures.some in
    subst (λ (fault : PushFault). Prepares (g.R.Keeper.content c.make_push.new.keeper) c.args.number (Err fault)) (sym c.of_making.ensures)
    (unmade (g.R.Keeper.content c.make_push.new.keeper) c.args.number c.in-Ok.log.ids
    (λ (r : Repository) told. c.in-Ok.ensures.log r (c.make_push.ensures.same.content r told))
    c.in-Some.before.now c.in-Some.id.now at c.in-Err-make_push.fault c.in-Err-make_push.ensures.makes)
