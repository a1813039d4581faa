-- What it means that a desk's log and its store stand for a history.
use Rattle.std.specs.Prelude.{◌≡◌, ◌≤◌, ◌⊎◌, ℕ, true, List, Option, Some, None}
use Rattle.git_object.specs.Repository.{Repository}
use Rattle.keeper_api.specs.Changes.{changed}
use Rattle.keeper_api.specs.declared.keepers.Keeper as keeper
use Rattle.rsl_chain.specs.Logs.{IsLogOf}
use Rattle.pushes.specs.Pushes.{IsSpelled}
use Rattle.pushes.specs.declared.pushed.Push.{Push}
use Rattle.desk_turns.specs.Histories.{History}
use Rattle.pushes.specs.Steps.{IsTaken, change_of, early, ids_of}
use Rattle.desk_turns.specs.States.{Desk}
use Rattle.desk_turns.specs.Legal.{IsLegal, Rose, faults, last, rows}

-- the last repository, or what a push makes of it
pub record IsOneOf (h : History) (push : Push) (r : Repository) : Type 0 where
  pub was : Repository
  pub last_is : last h ≡ Some was
  pub taken : IsTaken (rows h) was push
  pub one : (r ≡ was) ⊎ (r ≡ changed (change_of (rows h) push) was)

module _ {R : Type 0} (keeper_of : keeper.Ghosts R) (store : R) where
  -- nothing is in doubt: the store holds the last repository, and a stop leaves what it holds
  pub record IsSettled (h : History) : Type 0 where
    pub held : (r : Repository) → keeper_of.content store ≡ Some r → last h ≡ Some r
    pub counted : faults h ≤ keeper_of.faults store
    pub stop : keeper_of.tells_left store ≡ true → (w : Repository) → keeper_of.content store ≡ Some w
        → (r : Repository) → keeper_of.left store r → r ≡ w

  -- an entry is in doubt: the store holds the last repository or what its push makes of it, and a stop leaves one of
  -- these
  pub record IsDoubted (h : History) (id : List ℕ) : Type 0 where
    pub push : Push
    pub spelled : IsSpelled push
    pub id_is : push.entry.id ≡ id
    pub fits : early (rows h) push.entry ≡ None
    pub held : (r : Repository) → keeper_of.content store ≡ Some r → IsOneOf h push r
    pub rose : Rose (faults h) (keeper_of.faults store)
    pub stop : keeper_of.tells_left store ≡ true → (w : Repository) → keeper_of.content store ≡ Some w
        → (r : Repository) → keeper_of.left store r → IsOneOf h push r

  abbrev pub IsHeld : History → Option (List ℕ) → Type 0
  IsHeld h None = IsSettled h
  IsHeld h (Some id) = IsDoubted h id

  -- the desk's log and the store stand for the history
  pub record StandsFor (desk : Desk) (h : History) : Type 0 where
    pub legal : IsLegal h
    pub log : desk.log ≡ rows h
    pub is_log : (r : Repository) → last h ≡ Some r → IsLogOf r (ids_of desk.log)
    pub held : IsHeld h desk.doubt
