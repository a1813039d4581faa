-- What the answers of a commit say of a store.
use Rattle.std.proofs.Common.{◌≡◌, ◌∙◌, sym, subst, inl, inr, ⊎_elim}
use Rattle.std.specs.Prelude.{Result, Ok, Err}
use Rattle.octets.specs.Content.{Told}
use Rattle.keeper_api.specs.Keepers.{Commits, Leaves}
use Rattle.keeper_api.specs.Undisturbed.{Undisturbed}
use Rattle.keeper_api.specs.declared.changes.Change.{Change}
use Rattle.keeper_api.specs.declared.keeper_faults.KeeperFault.{KeeperFault}
use Rattle.keeper_api.specs.declared.keeper_faults.KeeperFault.TheVariants.{Failed}
use Rattle.keeper_api.specs.declared.keepers.Keeper as keeper
use Rattle.keeper_api.specs.Committing.{Gains, MayGain}

-- the answers of a commit
abbrev pub done : Result (Unit {0}) KeeperFault
done = Ok tt

abbrev pub refusal : KeeperFault → Result (Unit {0}) KeeperFault
refusal fault = Err fault

module _ {R : Type 0} (keeper_of : keeper.Ghosts R) (old new : R) where
  abbrev IsCommit : Change → Result (Unit {0}) KeeperFault → Type 0
  IsCommit change result =
      Told (Commits change result) (keeper_of.content old) (keeper_of.content new)
      × Leaves change result (keeper_of.content old) (keeper_of.tells_left old) (keeper_of.tells_left new) (keeper_of.left old) (keeper_of.left new)

  pub gained : (change : Change) → IsCommit change done → Gains keeper_of old new change
  gained change (told, leaves) = record {
    held = told;
    tells = leaves.tells;
    stop = λ tells now held r.
        let was = told now held in
        λ left. leaves.left tells was.0 was.1 r left ∙ sym was.2;
  }

  may_have_gained : (change : Change) → IsCommit change (refusal Failed) → MayGain keeper_of old new change
  may_have_gained change (told, leaves) = record { held = told; tells = leaves.tells; stop = λ tells r. leaves.left tells r }

  pub may_gain : (change : Change) (fault : KeeperFault) → fault ≡ Failed → Told (Commits change (refusal fault)) (keeper_of.content old) (keeper_of.content new)
      → Leaves change (refusal fault) (keeper_of.content old) (keeper_of.tells_left old) (keeper_of.tells_left new) (keeper_of.left old) (keeper_of.left new) → MayGain keeper_of old new change
  may_gain change fault same told leaves = may_have_gained change (subst (λ (f : KeeperFault). IsCommit change (refusal f)) same (told, leaves))

-- a commit after reading, by which nothing changes
module _ {R : Type 0} (keeper_of : keeper.Ghosts R) (old mid new : R) (first : Undisturbed keeper_of old mid) where
  pub gains_from : (change : Change) → Gains keeper_of mid new change → Gains keeper_of old new change
  gains_from change gains = record {
    held = λ now held. (let was = gains.held now held in (was.0, first.content was.0 was.1, was.2));
    tells = λ tells. first.tells (gains.tells tells);
    stop = gains.stop;
  }

  pub may_gain_from : (change : Change) → MayGain keeper_of mid new change → MayGain keeper_of old new change
  may_gain_from change gains = record {
    held = λ now held. (let was = gains.held now held in (was.0, first.content was.0 was.1, was.2));
    tells = λ tells. first.tells (gains.tells tells);
    stop = λ tells r left. ⊎_elim (λ past. inl (first.left (gains.tells tells) r past)) (λ was. inr (was.0, first.content was.0 was.1, was.2)) (gains.stop tells r left);
  }
