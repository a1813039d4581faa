-- What the seats of a desk were asked while it served, and what was answered: by what kind of desk. How its workers
-- ended, and with them serving.
use Rattle.std.specs.Prelude.{◌≡◌, ◌<◌, ◌≤◌, ◌⊎◌, ◌∷◌, [], ℕ, Bool, true, false, not, List, Option, Some, None}
use Rattle.std.specs.Prelude.{Result, Ok, Err, All, IsSomeAnd, length}
use Rattle.std.specs.List.{list_all}
use Rattle.desk_turns.specs.Seats.{IsNew, Sitting, TurnId}
use Rattle.desk_turns.specs.Legal.{IsLegal}
use Rattle.desk_messages.specs.declared.requests.Asked.{Asked}
use Rattle.desk_http.specs.ServingAnswers.{Answers}
use Rattle.desk_http.specs.declared.serving_desks.Serves as serves
use Rattle.desk_http.specs.declared.workers.Worker.{Worker}
use Rattle.desk_http.specs.declared.workers.WorkerEnd.{WorkerEnd}
use Rattle.desk_http.specs.declared.workers.WorkerEnd.TheVariants as worker_end
use Rattle.desk_http.specs.declared.faults.DeskFault.{DeskFault}
use Rattle.desk_http.specs.declared.faults.DeskFault.TheVariants as fault

-- a seat that was just given
pub record IsFirst (desk : TurnId) (s : Sitting) : Type 0 where
  pub number : ℕ
  pub new : IsNew IsLegal desk number s

-- A worker that was to serve so many connections ended so, and was asked this: it served as many, or fewer where its
-- door gave no more or failed. A connection asks for one thing at most.
abbrev pub IsEndOf : ℕ → List Asked → WorkerEnd → Type 0
IsEndOf most asked (worker_end.Served count) = (count ≡ most) × (length asked ≤ count)
IsEndOf most asked (worker_end.Closed count) = (count < most) × (length asked ≤ count)
IsEndOf most asked (worker_end.DoorFailed count) = (count < most) × (length asked ≤ count)

module _ (desk_of : serves.Ghosts TurnId) (desk : TurnId) where
  -- a request had a reply of this desk, between these views of the seat
  pub record IsReplied (asked : Asked) (old new : Sitting) : Type 0 where
    pub code : ℕ
    pub body : List ℕ
    pub answers : Answers desk_of desk old new code body asked

  -- these had, one after another
  abbrev pub AreReplied : List Asked → Sitting → Sitting → Type 0
  AreReplied [] old new = new ≡ old
  AreReplied (asked ∷ more) old new = (mid : Sitting) × IsReplied asked old mid × AreReplied more mid new

  -- a seat that was new, and was asked this, one request after another, by so many connections at most, which ended so
  pub record HasServed (most : ℕ) (seat : Sitting) (end : Option WorkerEnd) : Type 0 where
    pub first : Sitting
    pub was : IsFirst desk first
    pub asked : List Asked
    pub replied : AreReplied asked first seat
    pub ended : IsSomeAnd end (IsEndOf most asked)

-- all of these workers served so many connections each, or ended before, at one desk, which answers so
pub record ServeAtOne {E : Type 0} (desk_of : serves.Ghosts TurnId) (most : ℕ) (workers : List (Worker E)) : Type 0 where
  pub desk : TurnId
  pub each : All (λ w. HasServed desk_of desk most w.seat w.end) workers

-- and where no desk was opened there are none
abbrev pub AreServed : {E : Type 0} → serves.Ghosts TurnId → ℕ → List (Worker E) → Type 0
AreServed desk_of most workers = (workers ≡ []) ⊎ ServeAtOne desk_of most workers

-- ---- how serving ended

-- the door of a worker that ended so failed
abbrev pub door_failed : Option WorkerEnd → Bool
door_failed None = false
door_failed (Some (worker_end.Served count)) = false
door_failed (Some (worker_end.Closed count)) = false
door_failed (Some (worker_end.DoorFailed count)) = true

-- no door of these workers failed
abbrev pub doors_stood : {E : Type 0} → List (Worker E) → Bool
doors_stood workers = list_all (λ w. not (door_failed w.end)) workers

-- it ended well exactly where these workers served and no door of theirs failed; by any fault but that of a door nobody
-- had served, and by that one either a door failed or nobody had served
abbrev pub EndsAs : {E T : Type 0} → List (Worker E) → Result T DeskFault → Type 0
EndsAs workers (Ok done) = doors_stood workers ≡ true
EndsAs workers (Err (fault.LogBroken id)) = workers ≡ []
EndsAs workers (Err fault.KeeperFailed) = workers ≡ []
EndsAs workers (Err fault.NoListener) = workers ≡ []
EndsAs workers (Err fault.DoorFailed) = (workers ≡ []) ⊎ (doors_stood workers ≡ false)
EndsAs workers (Err fault.Memory) = workers ≡ []
