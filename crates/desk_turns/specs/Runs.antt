-- Runs of a seat: what holds whatever its caller does with it, in whatever order.
use Rattle.std.specs.Prelude.{◌≡◌, ◌⊎◌, ◌↔◌, ◌<◌, ◌≤◌, ℕ, List, [], ◌∷◌, ◌++◌}
use Rattle.desk_turns.specs.Histories.{History, Begins, longer}
use Rattle.desk_turns.specs.Seats.{Sitting, mine, SeesMore, TakesTurn, LeavesWithOne, given_back}

-- The same seat, later: what it had seen begins what it has seen, of what it added nothing is gone or moved, and it
-- counted no fewer faults.
pub record IsLater (old new : Sitting) : Type 0 where
  pub same_turn : new.turn ≡ old.turn
  pub same_number : new.number ≡ old.number
  pub later : Begins old.seen new.seen
  pub added : List (List ℕ)
  pub mine_more : mine new ≡ mine old ++ added
  pub own_more : old.own ≤ new.own

-- where a run ends
abbrev pub end_of : Sitting → List Sitting → Sitting
end_of s [] = s
end_of s (t ∷ ts) = end_of t ts

module _ {S : Type 0} (legal : History → Type 0) (stands : S → History → Type 0) (counted : S → ℕ) where
  -- a call of count or join, of take, of leave_with, or of leave
  abbrev pub IsCall : Sitting → Sitting → Type 0
  IsCall old new =
      SeesMore legal old new
      ⊎ (((state : S) × TakesTurn (counted state) old new)
      ⊎ (((state : S) × LeavesWithOne stands counted state old new)
      ⊎ ((state : S) × (new ≡ given_back (counted state) old.seen old))))

  -- each sitting comes of the one before it by one call
  abbrev pub IsRun : Sitting → List Sitting → Type 0
  IsRun s [] = Unit {0}
  IsRun s (t ∷ ts) = IsCall s t × IsRun t ts

  -- no run of a seat takes anything back
  abbrev pub NothingIsTakenBack : Type 0
  NothingIsTakenBack = (s : Sitting) (run : List Sitting) → IsRun s run → IsLater s (end_of s run)

-- a seat's own count of faults rises by a turn exactly where the state's faults rose in it
abbrev pub OwnRises : Type 0
OwnRises = (s : Sitting) (faults : ℕ) (seen : History) → s.faults ≤ faults
    → (s.own < (given_back faults seen s).own) ↔ (s.faults < faults)

-- two histories that begin one are both beginnings of the longer of them, which is one of the two
abbrev pub LongerOfTwo : Type 0
LongerOfTwo = (a b whole : History) → Begins a whole → Begins b whole
    → Begins a (longer a b) × Begins b (longer a b) × ((longer a b ≡ a) ⊎ (longer a b ≡ b))
