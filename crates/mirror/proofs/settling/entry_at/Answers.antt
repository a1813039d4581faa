use Rattle.std.proofs.Common.{◌≡◌, refl, sym, subst}
use Rattle.std.proofs.lemmas.Option.{same_Some}
use Rattle.git_object.specs.Repository.{HasObject, Repository}
use Rattle.mirror.proofs.settling.entry_at.Goals as goal

pub unreachable-requires : goal.unreachable-requires
unreachable-requires c =
    let now = c.load_object.new.keeper.held in
    let same : c.args.held.now.held ≡ now = same_Some c.args.held.now.held now (c.load_object.ensures.same.content now refl) in
    (rw c.in-Ok-None.field-0-is at c.in-Ok-None.ensures.none) now refl c.requires.0
    (subst (λ (r : Repository). HasObject r c.args.id.now c.requires.0) same c.requires.1)

pub returns-in-Ok-Some : goal.returns-in-Ok-Some
returns-in-Ok-Some c =
    let now = c.load_object.new.keeper.held in
    let same : c.args.held.now.held ≡ now = same_Some c.args.held.now.held now (c.load_object.ensures.same.content now refl) in
    subst (λ (r : Repository). HasObject r c.args.id.now c.in-Ok-Some.entry) (sym same)
    ((rw c.in-Ok-Some.field-0-is at c.in-Ok-Some.ensures.found) now refl)
