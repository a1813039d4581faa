-- A change of the kept store, with what each answer of its commit means.
use Rattle.std.specs.Prelude.{◌≡◌, ◌≤◌, ◌⊎◌, true, Some, Result, Ok, Err}
use Rattle.octets.specs.Content.{Told}
use Rattle.git_object.specs.Objects.{Pair}
use Rattle.git_object.specs.Repository.{HasObject, Repository}
use Rattle.keeper_api.specs.Undisturbed.{Undisturbed}
use Rattle.keeper_api.specs.declared.keeper_faults.KeeperFault.{KeeperFault}
use Rattle.keeper_api.specs.declared.keeper_faults.KeeperFault.TheVariants as keeper_fault
use Rattle.keeper_api.specs.declared.keepers.Keeper.{Ghosts}
use Rattle.mirror.specs.Mirrors.{Forks, Takes}
use Rattle.mirror.specs.declared.offers.Offer.{Offer}
use Rattle.mirror.specs.declared.offers.Offer.TheVariants.{Taken, Same, Behind, Forked}

module _ {S : Type 0} (keeper : Ghosts S) (old new : S) where
  -- a stop leaves what is held, and nothing else
  pub record LeavesHeld : Type 0 where
    pub tells : keeper.tells_left new ≡ true → keeper.tells_left old ≡ true
    pub stop : keeper.tells_left new ≡ true → (now : Repository) → keeper.content new ≡ Some now
        → (r : Repository) → keeper.left new r → r ≡ now

  -- what a stop leaves after an offer: what is held alone where the store was changed, else no more than before
  abbrev pub Rests : Offer → Type 0
  Rests (Taken from to) = LeavesHeld
  Rests (Same count) = Undisturbed keeper old new
  Rests (Behind ours theirs) = Undisturbed keeper old new
  Rests (Forked number ours theirs) = LeavesHeld

  -- the repository became this
  pub record Becomes (After : Repository → Repository → Type 0) : Type 0 where
    pub held : Told After (keeper.content old) (keeper.content new)
    pub leaves : LeavesHeld

  -- the repository that was told would become this one
  abbrev pub WouldBecome : (Repository → Repository → Type 0) → Repository → Type 0
  WouldBecome After r = (was : Repository) × (keeper.content old ≡ Some was) × After was r

  -- the repository is as before or became this, and a stop leaves no more than it could, and this
  pub record MayBecome (After : Repository → Repository → Type 0) : Type 0 where
    pub held : Told (λ was now. (now ≡ was) ⊎ After was now) (keeper.content old) (keeper.content new)
    pub tells : keeper.tells_left new ≡ true → keeper.tells_left old ≡ true
    pub stop : keeper.tells_left new ≡ true → (r : Repository) → keeper.left new r → keeper.left old r
        ⊎ WouldBecome After r

  abbrev pub ChangeSettles : (Repository → Repository → Type 0) → Result (Unit {0}) KeeperFault → Type 0
  ChangeSettles After (Ok done) = Becomes After
  ChangeSettles After (Err keeper_fault.Failed) = MayBecome After
  ChangeSettles After (Err keeper_fault.Memory) = Undisturbed keeper old new

  -- what an offer that was compared made of the store
  abbrev pub Settles : Repository → Offer → Result (Unit {0}) KeeperFault → Type 0
  Settles offered (Taken from to) result = ChangeSettles (Takes offered) result
  Settles offered (Same count) result = Undisturbed keeper old new
  Settles offered (Behind ours theirs) result = Undisturbed keeper old new
  Settles offered (Forked number ours theirs) result = ChangeSettles (Forks offered number theirs) result

-- where the logs part, the offered entry is there, and its number is that of one
abbrev pub CanSettle : Repository → Offer → Type 0
CanSettle offered (Taken from to) = Unit {0}
CanSettle offered (Same count) = Unit {0}
CanSettle offered (Behind ours theirs) = Unit {0}
CanSettle offered (Forked number ours theirs) = (number ≤ 1000000) × ((entry : Pair) × HasObject offered theirs entry)
