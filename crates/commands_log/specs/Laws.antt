-- What `log` comes to where the store tells what it holds, and the laws of it.
use Rattle.std.specs.Prelude.{◌≡◌, ◌⊎◌, ◌+◌, ◌++◌, ◌∷◌, ℕ, List, length, Option, Some, Result, Ok, Err}
use Rattle.git_object.specs.Repository.{Repository}
use Rattle.rsl_chain.specs.declared.entries.Entry.{Entry}
use Rattle.rsl_chain.specs.Logs.{IsBreakOf}
use Rattle.worlds.specs.Endings.{IsStopped}
use Rattle.rsl_chain.specs.Histories.{IsHistory}
use Rattle.commands_log.specs.Logging.{LogEnds, log_ending}
use Rattle.commands_log.specs.declared.faults.LogCommandFault.{LogCommandFault}
use Rattle.commands_log.specs.declared.faults.LogCommandFault.TheVariants.{Broken, KeeperFailed, SinkFailed, Memory}

-- the repository has a log of so many entries
abbrev pub HasLogOf : Repository → ℕ → Type 0
HasLogOf was count = (entries : List Entry) × IsHistory was entries × (length entries ≡ count)

-- what `log` comes to
abbrev pub LogComes : Repository → Result ℕ LogCommandFault → Type 0
LogComes was (Ok count) = HasLogOf was count
LogComes was (Err (Broken id)) = IsBreakOf was id
LogComes was (Err KeeperFailed) = ⊥
LogComes was (Err SinkFailed) = ⊥
LogComes was (Err Memory) = ⊥

-- a repository has one log at most, and the command comes to one outcome at most
pub record OneOfHistory : Type 0 where
  pub history : (was : Repository) (xs ys : List Entry) → IsHistory was xs → IsHistory was ys → xs ≡ ys
  pub log : (was : Repository) (a b : Result ℕ LogCommandFault) → LogComes was a → LogComes was b → a ≡ b

-- an entry has as its number its place among the entries of the log, from 1
abbrev pub CountsFromOne : Type 0
CountsFromOne = (was : Repository) (front : List Entry) (entry : Entry) (rest : List Entry)
    → IsHistory was (front ++ entry ∷ rest) → entry.number ≡ length front + 1

-- what ended is what the command comes to, or it stopped
abbrev pub TellsOfHistory : Type 0
TellsOfHistory = (was : Repository) (printed printed_now : Option (List ℕ)) (outcome : Result ℕ LogCommandFault)
    → LogEnds (Some was) printed printed_now outcome → LogComes was outcome ⊎ IsStopped (log_ending outcome)
