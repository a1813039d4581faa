-- What each outcome of `serve` means, as far as it comes before a desk is opened.
use Rattle.std.specs.Prelude.{◌≡◌, ◌⊎◌, ◌++◌, ℕ, Bool, true, false, List, length, Option, Some, Result, Ok, Err, codes}
use Rattle.std.specs.Prelude.{decimal}
use Rattle.octets.specs.Content.{GainsPart, with_end}
use Rattle.git_object.specs.Repository.{Repository}
use Rattle.rsl_chain.specs.Logs.{IsBreakOf, IsLogOf}
use Rattle.rsl_chain.specs.declared.log_faults.LogFault.{LogFault}
use Rattle.rsl_chain.specs.declared.log_faults.LogFault.TheVariants as log_
use Rattle.worlds.specs.Breaks.{break_line}
use Rattle.worlds.specs.declared.ending.Ending.{Ending}
use Rattle.worlds.specs.declared.ending.Ending.TheVariants.{Done, Broken, Refused}
use Rattle.worlds.specs.declared.ending.Part.TheVariants as part
use Rattle.worlds.specs.declared.ending.Refusal.TheVariants as refusal
use Rattle.commands_desk.specs.declared.readying.ServeFault.{ServeFault}
use Rattle.commands_desk.specs.declared.readying.ServeFault.TheVariants.{LogBroken, KeeperFailed, SinkFailed, Memory}

-- the line that says with how many entries a desk is ready
abbrev pub ready_line : ℕ → List ℕ
ready_line count = codes "ready " ++ decimal count ++ codes " entries\n"

-- why no log was loaded
abbrev pub fault_of : LogFault → ServeFault
fault_of (log_.Broken id) = LogBroken id
fault_of log_.Failed = KeeperFailed
fault_of log_.Memory = Memory

-- the faults that the store and the sink count
abbrev pub load_failed : ServeFault → Bool
load_failed (LogBroken id) = false
load_failed KeeperFailed = true
load_failed SinkFailed = false
load_failed Memory = false

abbrev pub tell_failed : ServeFault → Bool
tell_failed (LogBroken id) = false
tell_failed KeeperFailed = false
tell_failed SinkFailed = true
tell_failed Memory = false

-- how the program ends, or what it says before it serves
abbrev pub serve_ending : Result ℕ ServeFault → Ending
serve_ending (Ok count) = Done
serve_ending (Err (LogBroken id)) = Broken
serve_ending (Err KeeperFailed) = Refused (refusal.Fault part.Keeper)
serve_ending (Err SinkFailed) = Refused (refusal.Fault part.Sink)
serve_ending (Err Memory) = Refused refusal.Memory

-- the repository's log has so many entries
pub record HasEntries (r : Repository) (count : ℕ) : Type 0 where
  pub ids : List (List ℕ)
  pub log : IsLogOf r ids
  pub many : length ids ≡ count

-- what loading the log comes to, where the store tells
abbrev pub Loads : Option Repository → Result ℕ ServeFault → Type 0
Loads held (Ok count) = (r : Repository) → held ≡ Some r → HasEntries r count
Loads held (Err (LogBroken id)) = (r : Repository) → held ≡ Some r → IsBreakOf r id
Loads held (Err KeeperFailed) = Unit {0}
Loads held (Err SinkFailed) = ⊥
Loads held (Err Memory) = Unit {0}

-- what telling comes to with how many entries a desk is ready
abbrev pub Tells : ℕ → Option (List ℕ) → Option (List ℕ) → Result ℕ ServeFault → Type 0
Tells count printed printed_now (Ok told) = (told ≡ count) × (printed_now ≡ with_end printed (ready_line count))
Tells count printed printed_now (Err (LogBroken id)) = ⊥
Tells count printed printed_now (Err KeeperFailed) = ⊥
Tells count printed printed_now (Err SinkFailed) = GainsPart printed printed_now (ready_line count)
Tells count printed printed_now (Err Memory) = printed_now ≡ printed

module _ (held : Option Repository) (printed printed_now : Option (List ℕ)) where
  -- the log has so many entries, and exactly the line that says so was printed
  pub record IsReady (count : ℕ) : Type 0 where
    pub told : (r : Repository) → held ≡ Some r → HasEntries r count
    pub printed_is : printed_now ≡ with_end printed (ready_line count)

  -- a front of that line was printed, and not all of it
  pub record IsReadyPart : Type 0 where
    pub count : ℕ
    pub told : (r : Repository) → held ≡ Some r → HasEntries r count
    pub part : GainsPart printed printed_now (ready_line count)

  -- the log breaks at this id, and exactly the line that says so was printed
  pub record IsBreak (id : List ℕ) : Type 0 where
    pub told : (r : Repository) → held ≡ Some r → IsBreakOf r id
    pub printed_is : printed_now ≡ with_end printed (break_line id)

  -- a front of that line was printed, and not all of it
  pub record IsBreakPart : Type 0 where
    pub id : List ℕ
    pub told : (r : Repository) → held ≡ Some r → IsBreakOf r id
    pub part : GainsPart printed printed_now (break_line id)

  abbrev pub ServeEnds : Result ℕ ServeFault → Type 0
  ServeEnds (Ok count) = IsReady count
  ServeEnds (Err (LogBroken id)) = IsBreak id
  ServeEnds (Err KeeperFailed) = printed_now ≡ printed
  ServeEnds (Err SinkFailed) = IsReadyPart ⊎ IsBreakPart
  ServeEnds (Err Memory) = printed_now ≡ printed
