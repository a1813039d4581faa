-- What a store in memory holds after a commit is what a keeper may hold.
use Rattle.std.proofs.Common.{◌≡◌, Bool, true, false, cond, ◌⊎◌, Some, Result, Ok, Err, refl, sym, ◌∙◌, inl, inr}
use Rattle.std.proofs.lemmas.Option.{same_Some}
use Rattle.octets.specs.Content.{Told}
use Rattle.git_object.specs.Repository.{Repository}
use Rattle.keeper_api.specs.Changes.{changed}
use Rattle.keeper_api.specs.Keepers.{Commits}
use Rattle.keeper_api.specs.Stores.{Store, held_after, keeps_next}
use Rattle.keeper_api.specs.declared.changes.Change.{Change}
use Rattle.keeper_api.specs.declared.keeper_faults.KeeperFault.{KeeperFault}
use Rattle.keeper_api.specs.declared.keeper_faults.KeeperFault.TheVariants.{Failed, Memory}

old_or_new : (b : Bool) (a n now : Repository) → now ≡ cond b n a → (now ≡ a) ⊎ (now ≡ n)
old_or_new true a n now e = inr e
old_or_new false a n now e = inl e

commits : {T : Type 0} (store : Store) (change : Change) (r : Result T KeeperFault) (now : Repository) → now ≡ held_after store change r → Commits change r store.held now
commits store change (Ok _) now e = e
commits store change (Err Failed) now e = old_or_new (keeps_next store) store.held (changed change store.held) now e
commits store change (Err Memory) now e = e

pub told_after : {T : Type 0} (store : Store) (change : Change) (r : Result T KeeperFault) (held : Repository) → held ≡ held_after store change r → Told (Commits change r) (Some store.held) (Some held)
told_after store change r held e = λ now is. (store.held, refl, commits store change r now (sym (same_Some held now is) ∙ e))
