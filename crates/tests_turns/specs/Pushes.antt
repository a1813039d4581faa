-- What a push, and a worker's many, do to the seat of their caller.
use Rattle.std.specs.Prelude.{◌≡◌, ◌⊎◌, ◌<◌, ◌+◌, ◌-◌, ◌^◌, ℕ, true, false, List, [], ◌∷◌, ◌++◌, length}
use Rattle.std.specs.Prelude.{Result, Err, IfOk, OnErr, IsErrOf, Option}
use Rattle.desk_turns.specs.Histories.{Begins, count}
use Rattle.desk_turns.specs.Seats.{Sitting, mine}
use Rattle.tests_turns.specs.Legal.{Legal, marks}
use Rattle.tests_turns.specs.Shops.{follows}
use Rattle.tests_turns.specs.declared.shops.Refusal.{Refusal}
use Rattle.tests_turns.specs.declared.shops.Refusal.TheVariants.{Stale, Fault}
use Rattle.tests_turns.specs.declared.workers.Worker.{Worker}

-- the seat has at most seen more
pub record OnlySees (old new : Sitting) : Type 0 where
  pub is : new ≡ record old { seen = new.seen }
  pub later : Begins old.seen new.seen
  pub mine_same : mine new ≡ mine old

-- the history that was seen ends with the entry, of the seat, is as long as its number, and has one more of the seat's;
-- what was there before the entry is what it was to come after
pub record IsDone (after : Option ℕ) (id : List ℕ) (old new : Sitting) (number : ℕ) : Type 0 where
  pub front : List (List ℕ × ℕ)
  pub ends : marks new.seen.members ≡ front ++ (id, old.number) ∷ []
  pub counted : number ≡ count new.seen
  pub placed : (before : ℕ) × (number ≡ before + 1) × (follows after before ≡ true)
  pub mine_more : mine new ≡ mine old ++ id ∷ []

-- the history that was seen is as long as the number, which is not the one to come after
pub record IsStale (after : Option ℕ) (new : Sitting) (number : ℕ) : Type 0 where
  pub counted : number ≡ count new.seen
  pub other : follows after number ≡ false

-- what a push does to a seat, by its answer
pub record IsPushed (after : Option ℕ) (id : List ℕ) (result : Result ℕ Refusal) (old new : Sitting) : Type 0 where
  pub same_turn : new.turn ≡ old.turn
  pub same_number : new.number ≡ old.number
  pub idle : new.holds ≡ false
  pub later : Begins old.seen new.seen
  pub is_legal : Legal new.seen
  pub done : IfOk result (λ number. IsDone after id old new number)
  pub refused : OnErr result (mine new ≡ mine old)
  pub stale : (number : ℕ) → result ≡ Err (Stale number) → IsStale after new number
  pub fault : IsErrOf result Fault → (old.own < new.own) ⊎ (new.faults ≡ 2 ^ 64 - 1)

-- the worker's seat has seen more, in which stand all entries that it had added and as many more as the worker counts
pub record IsServed (old new : Worker) : Type 0 where
  pub same_number : new.seat.number ≡ old.seat.number
  pub later : Begins old.seat.seen new.seat.seen
  pub added : length (mine new.seat) ≡ length (mine old.seat) + new.added
