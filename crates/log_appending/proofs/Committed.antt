-- What the commit of an entry makes of a store.
use Rattle.std.proofs.Common.{◌≡◌, ◌∙◌, List, ℕ, sym, subst}
use Rattle.std.specs.Prelude.{Result, Ok, Err}
use Rattle.octets.specs.Content.{Told}
use Rattle.keeper_api.specs.Keepers.{Commits, Leaves}
use Rattle.keeper_api.specs.declared.changes.Change.{Change}
use Rattle.keeper_api.specs.declared.keeper_faults.KeeperFault.{KeeperFault}
use Rattle.keeper_api.specs.declared.keeper_faults.KeeperFault.TheVariants.{Failed}
use Rattle.keeper_api.specs.declared.keepers.Keeper as keeper
use Rattle.log_appending.specs.Stores.{Gains, MayGain, entry_change}

-- the answers of a commit
abbrev pub done : Result (Unit {0}) KeeperFault
done = Ok tt

abbrev pub refusal : KeeperFault → Result (Unit {0}) KeeperFault
refusal fault = Err fault

module _ {R : Type 0} (keeper_of : keeper.Ghosts R) where
  -- a commit by a change
  abbrev IsCommit : Change → Result (Unit {0}) KeeperFault → R → R → Type 0
  IsCommit change result old new =
      Told (Commits change result) (keeper_of.content old) (keeper_of.content new)
      × Leaves change result (keeper_of.content old) (keeper_of.tells_left old) (keeper_of.tells_left new) (keeper_of.left old) (keeper_of.left new)

  gained : (text : List ℕ) (old new : R) → IsCommit (entry_change text) done old new → Gains keeper_of text old new
  gained text old new (told, leaves) = record {
    held = told;
    tells = leaves.tells;
    stop = λ tells now held r.
        let was = told now held in
        λ left. leaves.left tells was.0 was.1 r left ∙ sym was.2;
  }

  pub gains : (text : List ℕ) (change : Change) (old new : R) → change ≡ entry_change text → Told (Commits change done) (keeper_of.content old) (keeper_of.content new)
      → Leaves change done (keeper_of.content old) (keeper_of.tells_left old) (keeper_of.tells_left new) (keeper_of.left old) (keeper_of.left new) → Gains keeper_of text old new
  gains text change old new is told leaves = gained text old new (subst (λ (c : Change). IsCommit c done old new) is (told, leaves))

  may_have_gained : (text : List ℕ) (old new : R) → IsCommit (entry_change text) (refusal Failed) old new → MayGain keeper_of text old new
  may_have_gained text old new (told, leaves) = record { held = told; tells = leaves.tells; stop = λ tells r. leaves.left tells r }

  pub may_gain : (text : List ℕ) (change : Change) (old new : R) (fault : KeeperFault) → fault ≡ Failed → change ≡ entry_change text
      → Told (Commits change (refusal fault)) (keeper_of.content old) (keeper_of.content new)
      → Leaves change (refusal fault) (keeper_of.content old) (keeper_of.tells_left old) (keeper_of.tells_left new) (keeper_of.left old) (keeper_of.left new) → MayGain keeper_of text old new
  may_gain text change old new fault same is told leaves =
      may_have_gained text old new
      (subst (λ (f : KeeperFault). IsCommit (entry_change text) (refusal f) old new) same (subst (λ (c : Change). IsCommit c (refusal fault) old new) is (told, leaves)))
