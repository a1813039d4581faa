-- What `push` comes to where the store and the desk tell what they hold.
use Rattle.std.specs.Prelude.{◌≡◌, ℕ, Bool, true, false, List, Result, Ok, Err, take}
use Rattle.git_object.specs.Repository.{Repository}
use Rattle.rsl_chain.specs.Logs.{IsBreakOf}
use Rattle.desk_messages.specs.ClientAsking.{most_read}
use Rattle.commands_desk.specs.Answering.{Says}
use Rattle.commands_desk.specs.Preparing.{HasNoEntry, IsTextOf, IsTooLargeOf, LacksOf}
use Rattle.commands_desk.specs.declared.faults.PushFault.{PushFault}
use Rattle.commands_desk.specs.declared.faults.PushFault.TheVariants.{LogBroken, NoEntry, Missing, TooLarge, Desk}
use Rattle.commands_desk.specs.declared.faults.PushFault.TheVariants.{KeeperFailed, PeerFailed, SinkFailed, Memory}

-- the entry has a push, and of the bytes that come those that are read say whether it was taken
pub record Answers (r : Repository) (come : List ℕ) (number : ℕ) (taken : Bool) : Type 0 where
  pub text : List ℕ
  pub made : IsTextOf r number text
  pub said : List ℕ
  pub says : Says (take most_read come) said taken

-- the push is taken, or the log breaks, has no such entry, lacks an object of it, or it is too large, or the desk takes
-- it not
abbrev pub PushComes : Repository → List ℕ → ℕ → Result (Unit {0}) PushFault → Type 0
PushComes r come number (Ok done) = Answers r come number true
PushComes r come number (Err (LogBroken id)) = IsBreakOf r id
PushComes r come number (Err NoEntry) = HasNoEntry r number
PushComes r come number (Err (Missing id)) = LacksOf r number id
PushComes r come number (Err TooLarge) = IsTooLargeOf r number
PushComes r come number (Err Desk) = Answers r come number false
PushComes r come number (Err KeeperFailed) = ⊥
PushComes r come number (Err PeerFailed) = ⊥
PushComes r come number (Err SinkFailed) = ⊥
PushComes r come number (Err Memory) = ⊥

-- it comes to one outcome at most
abbrev pub OneOfPush : Type 0
OneOfPush = (r : Repository) (come : List ℕ) (number : ℕ) (a b : Result (Unit {0}) PushFault)
    → PushComes r come number a → PushComes r come number b → a ≡ b
