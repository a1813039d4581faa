-- What a stream leaves of the keeper into which it was to go.
use Rattle.std.proofs.Common.{◌≡◌, ◌≤◌, inl, inr, ℕ, List, refl, subst, sym, ap, ◌∙◌}
use Rattle.std.specs.Prelude.{Option, Some, Ok, Err}
use Rattle.octets.specs.Causes.{HasCause}
use Rattle.octets.specs.Content.{Told}
use Rattle.git_object.specs.Repository.{Repository, empty_repository}
use Rattle.keeper_api.specs.Changes.{changed}
use Rattle.keeper_api.specs.Keepers.{Commits, Leaves}
use Rattle.keeper_api.specs.Undisturbed.{Undisturbed}
use Rattle.keeper_api.specs.declared.changes.Change.{Change}
use Rattle.keeper_api.specs.declared.keepers.Keeper.{Ghosts}
use Rattle.keeper_api.specs.declared.keeper_faults.KeeperFault.{KeeperFault}
use Rattle.keeper_api.specs.declared.keeper_faults.KeeperFault.TheVariants as keeper_fault
use Rattle.clone_stream.specs.Faults.{from_keeper, stream_keeper_failed}
use Rattle.clone_stream.specs.Streams.{IsStreamText}
use Rattle.clone_stream.specs.Taking.{IsChangeRead, IsOfSource, LeavesRefused, Spells, TakesInto}
use Rattle.clone_stream.specs.declared.stream_faults.StreamFault.{StreamFault}
use Rattle.clone_stream.specs.declared.stream_faults.StreamFault.TheVariants.{BadLine, IdDiffers, Order, TooLarge, Truncated, SourceFailed, KeeperFailed, NotEmpty, Memory}

-- a refusal of what the source gave is no fault of the keeper
pub source_cause : (fault : StreamFault) {before now : ℕ} → IsOfSource fault → before ≤ now → now ≡ before → HasCause {T = Unit {0}} stream_keeper_failed before now (Err fault)
source_cause (BadLine at) of later same = record { later = later; is = same }
source_cause (IdDiffers id found) of later same = record { later = later; is = same }
source_cause (Order at) of later same = record { later = later; is = same }
source_cause (TooLarge limit) of later same = record { later = later; is = same }
source_cause (Truncated at) of later same = record { later = later; is = same }
source_cause SourceFailed of later same = record { later = later; is = same }
source_cause KeeperFailed of later same = absurd of
source_cause NotEmpty of later same = absurd of
source_cause Memory of later same = record { later = later; is = same }

module _ {S : Type 0} (keeper : Ghosts S) (left left_now : Option (List ℕ)) (old mid : S) where
  pub source_leaves : (fault : StreamFault) → IsOfSource fault → Undisturbed keeper old mid → LeavesRefused keeper left left_now old mid fault
  source_leaves (BadLine at) of same = same
  source_leaves (IdDiffers id found) of same = same
  source_leaves (Order at) of same = same
  source_leaves (TooLarge limit) of same = same
  source_leaves (Truncated at) of same = same
  source_leaves SourceFailed of same = same
  source_leaves KeeperFailed of same = absurd of
  source_leaves NotEmpty of same = absurd of
  source_leaves Memory of same = same

  -- a keeper that failed before the commit
  pub keeper_leaves : (fault : KeeperFault) → Undisturbed keeper old mid → LeavesRefused keeper left left_now old mid (from_keeper fault)
  keeper_leaves keeper_fault.Failed same = record {
    held = λ r told. inl (same.content r told);
    tells = same.tells;
    stop = λ tells r now. inl (same.left tells r now);
  }
  keeper_leaves keeper_fault.Memory same = same

  module _ (new : S) (change : Change) (same : Undisturbed keeper old mid) (empty : (r : Repository) → keeper.content mid ≡ Some r → r ≡ empty_repository) (read : IsChangeRead change left left_now) where
    spells : (was r : Repository) → keeper.content mid ≡ Some was → r ≡ changed change was → Spells left left_now (keeper.content old) r
    spells was r told is =
        let none = empty was told in
        record {
          bytes = read.bytes;
          was_read = read.was_read;
          empty = same.content was told ∙ ap Some none;
          text = subst (λ (s : Repository). IsStreamText s read.bytes) (sym (is ∙ ap (changed change) none)) read.text;
        }

    -- a commit that the keeper refused
    pub commit_leaves : (fault : KeeperFault) → Told (Commits change {T = Unit {0}} (Err fault)) (keeper.content mid) (keeper.content new)
        → Leaves change {T = Unit {0}} (Err fault) (keeper.content mid) (keeper.tells_left mid) (keeper.tells_left new) (keeper.left mid) (keeper.left new)
        → (fault ≡ keeper_fault.Memory → (first : S) → keeper.comes first mid → keeper.comes first new) → LeavesRefused keeper left left_now old new (from_keeper fault)
    commit_leaves keeper_fault.Failed told leaves came = record {
      held = λ r now. elim ((told r now).2) [
        | inl as_was ↦ inl (same.content r ((told r now).1 ∙ ap Some (sym as_was)))
        | inr is ↦ inr (spells (told r now).0 r (told r now).1 is)
      ];
      tells = λ tells. same.tells (leaves.tells tells);
      stop = λ tells r now. elim (leaves.left tells r now) [
        | inl past ↦ inl (same.left (leaves.tells tells) r past)
        | inr is ↦ inr (spells is.0 r is.1 is.2)
      ];
    }
    commit_leaves keeper_fault.Memory told leaves came = record {
      content = λ r now. same.content r ((told r now).1 ∙ ap Some (sym (told r now).2));
      tells = λ tells. same.tells (leaves.tells tells);
      left = λ tells r now. same.left (leaves.tells tells) r (leaves.left tells r now);
      comes = λ first was. came refl first (same.comes first was);
    }

    -- a commit that was made
    pub taken_into : (done : Unit {0}) → Told (Commits change (Ok done)) (keeper.content mid) (keeper.content new)
        → Leaves change (Ok done) (keeper.content mid) (keeper.tells_left mid) (keeper.tells_left new) (keeper.left mid) (keeper.left new)
        → TakesInto keeper left left_now old new
    taken_into done told leaves = record {
      takes = record {
        bytes = read.bytes;
        repository = changed change empty_repository;
        was_read = read.was_read;
        text = read.text;
        held = λ r now.
            let none = empty (told r now).0 (told r now).1 in
            (same.content (told r now).0 (told r now).1 ∙ ap Some none, (told r now).2 ∙ ap (changed change) none);
      };
      tells = λ tells. same.tells (leaves.tells tells);
      stop = λ tells now is r.
          let was = (told now is).0 in
          let is_was = (told now is).1 in
          λ here. leaves.left tells was is_was r here ∙ ap (changed change) (empty was is_was);
    }
