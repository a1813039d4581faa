-- What `serve` comes to where the store tells what it holds.
use Rattle.std.specs.Prelude.{◌≡◌, ℕ, Result, Ok, Err}
use Rattle.git_object.specs.Repository.{Repository}
use Rattle.rsl_chain.specs.Logs.{IsBreakOf}
use Rattle.commands_desk.specs.Readying.{HasEntries}
use Rattle.commands_desk.specs.declared.readying.ServeFault.{ServeFault}
use Rattle.commands_desk.specs.declared.readying.ServeFault.TheVariants.{LogBroken, KeeperFailed, SinkFailed, Memory}

-- it is ready with the entries of the log, or names where the log breaks
abbrev pub ServeComes : Repository → Result ℕ ServeFault → Type 0
ServeComes was (Ok count) = HasEntries was count
ServeComes was (Err (LogBroken id)) = IsBreakOf was id
ServeComes was (Err KeeperFailed) = ⊥
ServeComes was (Err SinkFailed) = ⊥
ServeComes was (Err Memory) = ⊥

-- it comes to one outcome at most
abbrev pub OneOfServe : Type 0
OneOfServe = (was : Repository) (a b : Result ℕ ServeFault) → ServeComes was a → ServeComes was b → a ≡ b
