-- How an entry in doubt is settled.
use Rattle.std.specs.Prelude.{◌≡◌, ◌⊎◌, true, List, [], ◌∷◌, ℕ, Bool}
use Rattle.std.specs.Prelude.{false, Option, Some, None, Result, Ok, Err, unwrap_or}
use Rattle.std.specs.FinMap.{get}
use Rattle.octets.specs.Content.{Told}
use Rattle.git_object.specs.Ids.{zeros}
use Rattle.git_object.specs.Names.{log_name}
use Rattle.git_object.specs.Repository.{Repository}
use Rattle.keeper_api.specs.Undisturbed.{Undisturbed}
use Rattle.keeper_api.specs.declared.changes.Change.{Change}
use Rattle.keeper_api.specs.declared.keeper_faults.KeeperFault.{KeeperFault}
use Rattle.keeper_api.specs.declared.keeper_faults.KeeperFault.TheVariants as fault_
use Rattle.keeper_api.specs.declared.keepers.Keeper as keeper
use Rattle.pushes.specs.Steps.{tip_of}
use Rattle.desk_turns.specs.States.{Desk, with_row}
use Rattle.desk_turns.specs.declared.settled.Settled.{Settled}
use Rattle.desk_turns.specs.declared.settled.Settled.TheVariants.{Clear, TookIn, Moved, Fault, Memory}

abbrev pub is_unsettled : Settled → Bool
is_unsettled Clear = false
is_unsettled (TookIn id) = false
is_unsettled (Moved found expected) = false
is_unsettled Fault = true
is_unsettled Memory = false

abbrev pub settled_as : Settled → Result (Unit {0}) Settled
settled_as settled = Err settled

-- the change that puts the log's reference there
abbrev pub tip_change : Option (List ℕ) → Change
tip_change value = record { objects = []; refs = record { name = log_name; to = value } ∷ [] }

-- the log's reference has this value, and all is as it was
pub record IsSame (value : Option (List ℕ)) (was now : Repository) : Type 0 where
  pub value_is : get was.refs log_name ≡ value
  pub same : now ≡ was

module _ {R : Type 0} (keeper_of : keeper.Ghosts R) (old new : R) where
  -- the log's reference had this value and was put there again: the store holds what it held, and a stop leaves that
  -- alone
  pub record KeepsTip (value : Option (List ℕ)) : Type 0 where
    pub held : Told (IsSame value) (keeper_of.content old) (keeper_of.content new)
    pub tells : keeper_of.tells_left new ≡ true → keeper_of.tells_left old ≡ true
    pub stop : keeper_of.tells_left new ≡ true → (w : Repository) → keeper_of.content new ≡ Some w
        → (r : Repository) → keeper_of.left new r → r ≡ w

  -- that failed: the store holds what it held, and a stop leaves no more than it could, and what is held
  pub record MayKeepTip (value : Option (List ℕ)) : Type 0 where
    pub held : Told (IsSame value) (keeper_of.content old) (keeper_of.content new)
    pub tells : keeper_of.tells_left new ≡ true → keeper_of.tells_left old ≡ true
    pub stop : keeper_of.tells_left new ≡ true → (r : Repository) → keeper_of.left new r
        → keeper_of.left old r ⊎ (keeper_of.content old ≡ Some r)

  -- what each answer of that means
  abbrev pub KeepsAs : Option (List ℕ) → Result (Unit {0}) KeeperFault → Type 0
  KeepsAs value (Ok done) = KeepsTip value
  KeepsAs value (Err fault_.Failed) = MayKeepTip value
  KeepsAs value (Err fault_.Memory) = Undisturbed keeper_of old new

  module _ (was now : Desk) where
    -- nothing was in doubt, or it is dropped: the log's reference is at the tip
    pub record IsCleared : Type 0 where
      pub state : now ≡ record { log = was.log; doubt = None }
      pub store : ((was.doubt ≡ None) × Undisturbed keeper_of old new) ⊎ KeepsTip (tip_of was.log)

    -- the entry in doubt is there: the log's reference is at it
    pub record IsTookIn (id : List ℕ) : Type 0 where
      pub doubt : was.doubt ≡ Some id
      pub state : now ≡ with_row was id 0
      pub store : KeepsTip (Some id)

    -- the log's reference is elsewhere
    pub record IsMoved (found expected : List ℕ) : Type 0 where
      pub state : now ≡ was
      pub store : Undisturbed keeper_of old new
      pub expected_is : expected ≡ unwrap_or (tip_of was.log) zeros
      pub found_is : (r : Repository) → keeper_of.content new ≡ Some r
          → found ≡ unwrap_or (get r.refs log_name) zeros
      pub not_tip : (r : Repository) → keeper_of.content new ≡ Some r → get r.refs log_name ≡ tip_of was.log → ⊥
      pub not_doubt : (r : Repository) → keeper_of.content new ≡ Some r → get r.refs log_name ≡ was.doubt → ⊥

    -- the store failed, and the doubt stays
    pub record IsFailed : Type 0 where
      pub state : now ≡ was
      pub store : Undisturbed keeper_of old new ⊎ (MayKeepTip (tip_of was.log) ⊎ MayKeepTip was.doubt)

    pub record IsLacking : Type 0 where
      pub state : now ≡ was
      pub store : Undisturbed keeper_of old new

    abbrev pub Settles : Settled → Type 0
    Settles Clear = IsCleared
    Settles (TookIn id) = IsTookIn id
    Settles (Moved found expected) = IsMoved found expected
    Settles Fault = IsFailed
    Settles Memory = IsLacking
