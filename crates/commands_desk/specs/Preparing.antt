-- The push of the entry of a number.
use Rattle.std.specs.Prelude.{◌≡◌, ◌+◌, ◌++◌, ◌∷◌, ℕ, List, Option, Some, Result, Ok, Err, length}
use Rattle.git_object.specs.Repository.{Repository}
use Rattle.rsl_chain.specs.Logs.{IsBreakOf, IsLogOf}
use Rattle.pushes.specs.Making.{IsMade, IsPushOf, IsTooLarge, Lacks}
use Rattle.commands_desk.specs.declared.faults.PushFault.{PushFault}
use Rattle.commands_desk.specs.declared.faults.PushFault.TheVariants.{LogBroken, NoEntry, Missing, TooLarge, Desk}
use Rattle.commands_desk.specs.declared.faults.PushFault.TheVariants.{KeeperFailed, PeerFailed, SinkFailed, Memory}

-- the id stands at the place of this number, counted from 1, and these before it
pub record StandsAt (ids : List (List ℕ)) (number : ℕ) (before : List (List ℕ)) (id : List ℕ) : Type 0 where
  pub rest : List (List ℕ)
  pub whole : ids ≡ before ++ id ∷ rest
  pub numbered : number ≡ length before + 1

-- of the entry of this number of the repository's log, after those before it, this is so
pub record OfEntry (r : Repository) (number : ℕ) (So : Repository → List (List ℕ) → List ℕ → Type 0) : Type 0 where
  pub ids : List (List ℕ)
  pub log : IsLogOf r ids
  pub before : List (List ℕ)
  pub id : List ℕ
  pub stands : StandsAt ids number before id
  pub so : So r before id

-- the log has no entry of this number
pub record HasNoEntry (r : Repository) (number : ℕ) : Type 0 where
  pub ids : List (List ℕ)
  pub log : IsLogOf r ids
  pub none : (before : List (List ℕ)) (id : List ℕ) → StandsAt ids number before id → ⊥

-- this is the text of its push
abbrev pub IsTextOf : Repository → ℕ → List ℕ → Type 0
IsTextOf r number text = OfEntry r number (λ r before id. IsMade r before id text)

-- this is the first object that goes with it and is not there
abbrev pub LacksOf : Repository → ℕ → List ℕ → Type 0
LacksOf r number missing = OfEntry r number (λ r before id. Lacks r before id missing)

-- its push would pass the limit
abbrev pub IsTooLargeOf : Repository → ℕ → Type 0
IsTooLargeOf r number = OfEntry r number IsTooLarge

-- this holds of what is told
abbrev pub Told : Option Repository → (Repository → Type 0) → Type 0
Told held So = (r : Repository) → held ≡ Some r → So r

-- the text is that of a push, and where the store tells it is that of the entry of this number
pub record IsReady (held : Option Repository) (number : ℕ) (text : List ℕ) : Type 0 where
  pub id : List ℕ
  pub push : IsPushOf id text
  pub told : Told held (λ r. IsTextOf r number text)

-- what making the push of the entry of a number comes to
abbrev pub Prepares : Option Repository → ℕ → Result (List ℕ) PushFault → Type 0
Prepares held number (Ok text) = IsReady held number text
Prepares held number (Err (LogBroken id)) = Told held (λ r. IsBreakOf r id)
Prepares held number (Err NoEntry) = Told held (λ r. HasNoEntry r number)
Prepares held number (Err (Missing id)) = Told held (λ r. LacksOf r number id)
Prepares held number (Err TooLarge) = Told held (λ r. IsTooLargeOf r number)
Prepares held number (Err Desk) = ⊥
Prepares held number (Err KeeperFailed) = Unit {0}
Prepares held number (Err PeerFailed) = ⊥
Prepares held number (Err SinkFailed) = ⊥
Prepares held number (Err Memory) = Unit {0}
