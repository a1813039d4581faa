-- Reading where a reference stands, and then storing a snapshot.
use Rattle.std.proofs.Common.{◌≡◌, ℕ, List, inl, refl}
use Rattle.std.specs.Prelude.{Option, Some}
use Rattle.git_object.specs.Objects.{pair_id}
use Rattle.git_object.specs.Repository.{Repository}
use Rattle.keeper_api.specs.Undisturbed.{Undisturbed}
use Rattle.keeper_api.specs.declared.keepers.Keeper as keeper
use Rattle.keeper_api.proofs.Committed.{gains_from, may_gain_from}
use Rattle.commands_snapshot.specs.Parents.{IsParent, WhyNoParent}
use Rattle.keeper_api.specs.Committing.{Gains, MayGain}
use Rattle.commands_snapshot.specs.Storing.{Asks, RefusesStoring, Stores, no_parent, snapshot_change, snapshot_commit}
use Rattle.commands_snapshot.specs.declared.making.Made.{Made}
use Rattle.commands_snapshot.specs.declared.parents.ParentFault.{ParentFault}
use Rattle.commands_snapshot.specs.declared.parents.ParentFault.TheVariants.{Failed, NoCommit, Memory}

module _ {R : Type 0} (keeper_of : keeper.Ghosts R) (name : List ℕ) (made : Made) (time time_now : Option (List ℕ)) where
  -- why nothing is stored where no parent was read
  pub unstored : (old new : R) → Undisturbed keeper_of old new → time_now ≡ time → (fault : ParentFault) → ((r : Repository) → keeper_of.content new ≡ Some r → WhyNoParent name fault r)
      → RefusesStoring keeper_of name made time time_now old new (no_parent fault)
  unstored old new same unasked Failed why = record { same = same; unasked = unasked; why = λ now held. tt }
  unstored old new same unasked (NoCommit id) why = record { same = same; unasked = unasked; why = why }
  unstored old new same unasked Memory why = record { same = same; asked = inl unasked }

  module _ (old mid new : R) (first : Undisturbed keeper_of old mid) where
    module _ (parent : Option (List ℕ)) (is : (r : Repository) → keeper_of.content mid ≡ Some r → IsParent r name parent) (seconds : ℕ) (asked : Asks time time_now seconds) where
      pub stored : (id : List ℕ) → id ≡ pair_id (snapshot_commit made parent seconds) → Gains keeper_of mid new (snapshot_change name made.objects (snapshot_commit made parent seconds))
          → Stores keeper_of name made time time_now old new (Gains keeper_of old new) id
      stored id id_is gains = record {
        parent = parent;
        parent_is = λ now held. (let was = gains.held now held in (was.0, first.content was.0 was.1, is was.0 was.1));
        seconds = seconds;
        asked = asked;
        id_is = id_is;
        held = gains_from keeper_of old mid new first (snapshot_change name made.objects (snapshot_commit made parent seconds)) gains;
      }

      pub may_be_stored : MayGain keeper_of mid new (snapshot_change name made.objects (snapshot_commit made parent seconds))
          → (id : List ℕ) × Stores keeper_of name made time time_now old new (MayGain keeper_of old new) id
      may_be_stored gains = (
        pair_id (snapshot_commit made parent seconds),
        record {
          parent = parent;
          parent_is = λ now held. (let was = gains.held now held in (was.0, first.content was.0 was.1, is was.0 was.1));
          seconds = seconds;
          asked = asked;
          id_is = refl;
          held = may_gain_from keeper_of old mid new first (snapshot_change name made.objects (snapshot_commit made parent seconds)) gains;
        },
      )
