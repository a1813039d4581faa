-- What a commit of a change makes of a store that was only read before it.
use Rattle.std.proofs.Common.{◌≡◌, ◌⊎◌, refl, sym, subst, inl, inr}
use Rattle.std.specs.Prelude.{Some, Result, Ok, Err}
use Rattle.git_object.specs.Repository.{Repository}
use Rattle.keeper_api.specs.Changes.{changed}
use Rattle.keeper_api.specs.Committing.{ChangeEnds}
use Rattle.keeper_api.specs.Undisturbed.{Undisturbed}
use Rattle.keeper_api.specs.declared.changes.Change.{Change}
use Rattle.keeper_api.specs.declared.keeper_faults.KeeperFault.{KeeperFault}
use Rattle.keeper_api.specs.declared.keeper_faults.KeeperFault.TheVariants.{Failed, Memory}
use Rattle.keeper_api.specs.declared.keepers.Keeper.{Ghosts}
use Rattle.keeper_api.proofs.Coming.{as_before_then}
use Rattle.mirror.specs.Settling.{ChangeSettles}

module _ {S : Type 0} (keeper : Ghosts S) (After : Repository → Repository → Type 0) where
  -- a store that was only read
  pub unsettled : (old new : S) (fault : KeeperFault) → Undisturbed keeper old new → ChangeSettles keeper old new After (Err fault)
  unsettled old new Failed same = record {
    held = λ now told. (now, same.content now told, inl refl);
    tells = same.tells;
    stop = λ tells r left. inl (same.left tells r left);
  }
  unsettled old new Memory same = same

  module _ (old mid new : S) (change : Change) (same : Undisturbed keeper old mid) (makes : (r : Repository) → keeper.content mid ≡ Some r → After r (changed change r)) where
    made : (was now : Repository) → keeper.content mid ≡ Some was → now ≡ changed change was → After was now
    made was now told is = subst (λ (r : Repository). After was r) (sym is) (makes was told)

    or_made : (was now : Repository) → keeper.content mid ≡ Some was → (now ≡ was) ⊎ (now ≡ changed change was) → (now ≡ was) ⊎ After was now
    or_made was now told (inl is) = inl is
    or_made was now told (inr is) = inr (made was now told is)

    pub settled : (result : Result (Unit {0}) KeeperFault) → ChangeEnds keeper mid new change result → ChangeSettles keeper old new After result
    settled (Ok done) ends = record {
      held = λ now told. let was = ends.held now told in (was.0, same.content was.0 was.1, made was.0 now was.1 was.2);
      leaves = record { tells = λ tells. same.tells (ends.tells tells); stop = ends.stop };
    }
    settled (Err Failed) ends = record {
      held = λ now told. let was = ends.held now told in (was.0, same.content was.0 was.1, or_made was.0 now was.1 was.2);
      tells = λ tells. same.tells (ends.tells tells);
      stop = λ tells r left. elim (ends.stop tells r left) [
        | inl past ↦ inl (same.left (ends.tells tells) r past)
        | inr is ↦ inr (is.0, same.content is.0 is.1, made is.0 r is.1 is.2)
      ];
    }
    settled (Err Memory) ends = as_before_then keeper old mid new same ends
