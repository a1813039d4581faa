-- Calls that make no commit, one after the other.
use Rattle.keeper_api.specs.Undisturbed.{Undisturbed}
use Rattle.keeper_api.specs.declared.keepers.Keeper as keeper

module _ {R : Type 0} (keeper_of : keeper.Ghosts R) where
  pub as_before : (store : R) → Undisturbed keeper_of store store
  as_before store = record { content = λ now held. held; tells = λ tells. tells; left = λ tells r left. left; comes = λ first came. came }

  pub as_before_then : (old mid new : R) → Undisturbed keeper_of old mid → Undisturbed keeper_of mid new → Undisturbed keeper_of old new
  as_before_then old mid new first next = record {
    content = λ now held. first.content now (next.content now held);
    tells = λ tells. first.tells (next.tells tells);
    left = λ tells r left. first.left (next.tells tells) r (next.left tells r left);
    comes = λ keeper came. next.comes keeper (first.comes keeper came);
  }
