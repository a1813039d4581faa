-- An empty store that is filled with a demonstration.
use Rattle.std.specs.Prelude.{◌≡◌, ◌≢◌, ℕ, Bool, true, false, Some, Result, Ok, Err}
use Rattle.git_object.specs.Repository.{Repository, empty_repository}
use Rattle.keeper_api.specs.Undisturbed.{Undisturbed}
use Rattle.keeper_api.specs.declared.keepers.Keeper as keeper
use Rattle.keeper_api.specs.Committing.{Gains, MayGain}
use Rattle.demo.specs.Histories.{demo_change}
use Rattle.demo.specs.declared.filling.FillFault.{FillFault}
use Rattle.demo.specs.declared.filling.FillFault.TheVariants.{KeeperFailed, NotEmpty, Memory, CommitFailed}

-- the fault that the store counts
abbrev pub fill_failed : FillFault → Bool
fill_failed KeeperFailed = true
fill_failed NotEmpty = false
fill_failed Memory = false
fill_failed CommitFailed = true

module _ (n : ℕ) {R : Type 0} (keeper_of : keeper.Ghosts R) (old new : R) where
  -- it held nothing
  abbrev pub WasEmpty : Type 0
  WasEmpty = (now : Repository) → keeper_of.content new ≡ Some now → keeper_of.content old ≡ Some empty_repository

  -- it held nothing, and has the objects and references of so many changes; a stop leaves these and nothing else
  pub record Fills : Type 0 where
    pub was : WasEmpty
    pub gains : Gains keeper_of old new (demo_change n)

  -- it held nothing, and still does or has them
  pub record MayFill : Type 0 where
    pub was : WasEmpty
    pub gains : MayGain keeper_of old new (demo_change n)

  -- it is as it was, and holds something
  pub record HoldsSomething : Type 0 where
    pub same : Undisturbed keeper_of old new
    pub some : (now : Repository) → keeper_of.content new ≡ Some now → now ≢ empty_repository

  abbrev pub FillEnds : Result (Unit {0}) FillFault → Type 0
  FillEnds (Ok done) = Fills
  FillEnds (Err KeeperFailed) = Undisturbed keeper_of old new
  FillEnds (Err NotEmpty) = HoldsSomething
  FillEnds (Err Memory) = Undisturbed keeper_of old new
  FillEnds (Err CommitFailed) = MayFill
