-- What a commit does to a store.
use Rattle.std.specs.Prelude.{◌≡◌, ◌⊎◌, true, Some, Result, Ok, Err}
use Rattle.octets.specs.Content.{Told}
use Rattle.git_object.specs.Repository.{Repository}
use Rattle.keeper_api.specs.Changes.{changed}
use Rattle.keeper_api.specs.Keepers.{IsChanged}
use Rattle.keeper_api.specs.Undisturbed.{Undisturbed}
use Rattle.keeper_api.specs.declared.changes.Change.{Change}
use Rattle.keeper_api.specs.declared.keeper_faults.KeeperFault.{KeeperFault}
use Rattle.keeper_api.specs.declared.keeper_faults.KeeperFault.TheVariants.{Failed, Memory}
use Rattle.keeper_api.specs.declared.keepers.Keeper as keeper

-- one is the other with the change made
abbrev pub Makes : Change → Repository → Repository → Type 0
Makes change was now = now ≡ changed change was

-- one is the other, or that with the change made
abbrev pub MayMake : Change → Repository → Repository → Type 0
MayMake change was now = (now ≡ was) ⊎ (now ≡ changed change was)

module _ {R : Type 0} (keeper_of : keeper.Ghosts R) (old new : R) where
  -- the change was made, and a stop leaves what is held and nothing else
  pub record Gains (change : Change) : Type 0 where
    pub held : Told (Makes change) (keeper_of.content old) (keeper_of.content new)
    pub tells : keeper_of.tells_left new ≡ true → keeper_of.tells_left old ≡ true
    pub stop : keeper_of.tells_left new ≡ true → (now : Repository) → keeper_of.content new ≡ Some now
        → (r : Repository) → keeper_of.left new r → r ≡ now

  -- the repository is as before or has the change made, and a stop leaves no more than it could, and that
  pub record MayGain (change : Change) : Type 0 where
    pub held : Told (MayMake change) (keeper_of.content old) (keeper_of.content new)
    pub tells : keeper_of.tells_left new ≡ true → keeper_of.tells_left old ≡ true
    pub stop : keeper_of.tells_left new ≡ true → (r : Repository) → keeper_of.left new r → keeper_of.left old r
        ⊎ IsChanged change (keeper_of.content old) r

  -- what each answer of the commit means
  abbrev pub ChangeEnds : Change → Result (Unit {0}) KeeperFault → Type 0
  ChangeEnds change (Ok done) = Gains change
  ChangeEnds change (Err Failed) = MayGain change
  ChangeEnds change (Err Memory) = Undisturbed keeper_of old new
