-- What each outcome of `log` means.
use Rattle.std.specs.Prelude.{◌≡◌, ◌⊎◌, ◌++◌, ℕ, List, [], length, Option, Some, Result, Ok, Err}
use Rattle.octets.specs.Content.{GainsPart, with_end}
use Rattle.git_object.specs.Repository.{Repository}
use Rattle.rsl_chain.specs.declared.entries.Entry.{Entry}
use Rattle.rsl_chain.specs.Logs.{IsBreakOf}
use Rattle.worlds.specs.declared.ending.Ending.{Ending}
use Rattle.worlds.specs.declared.ending.Ending.TheVariants as ending
use Rattle.worlds.specs.declared.ending.Part.TheVariants as part
use Rattle.worlds.specs.declared.ending.Refusal.TheVariants as refusal
use Rattle.rsl_chain.specs.Histories.{BeginsHistory, IsHistory}
use Rattle.worlds.specs.Breaks.{break_line}
use Rattle.commands_log.specs.Lines.{log_text}
use Rattle.commands_log.specs.declared.faults.LogCommandFault.{LogCommandFault}
use Rattle.commands_log.specs.declared.faults.LogCommandFault.TheVariants.{Broken, KeeperFailed, SinkFailed, Memory}

-- how the program ends
abbrev pub log_ending : Result ℕ LogCommandFault → Ending
log_ending (Ok count) = ending.Done
log_ending (Err (Broken id)) = ending.Broken
log_ending (Err KeeperFailed) = ending.Refused (refusal.Fault part.Keeper)
log_ending (Err SinkFailed) = ending.Refused (refusal.Fault part.Sink)
log_ending (Err Memory) = ending.Refused refusal.Memory

module _ (held : Option Repository) (printed printed_now : Option (List ℕ)) where
  -- the lines of so many entries were printed, which are the log's where the store tells
  pub record PrintsLog (count : ℕ) : Type 0 where
    pub entries : List Entry
    pub gained : printed_now ≡ with_end printed (log_text entries)
    pub many : length entries ≡ count
    pub told : (r : Repository) → held ≡ Some r → IsHistory r entries

  -- whole lines of entries were printed, which are the first of the log where the store tells
  pub record PrintsFront : Type 0 where
    pub first : List Entry
    pub gained : printed_now ≡ with_end printed (log_text first)
    pub told : (r : Repository) → held ≡ Some r → BeginsHistory r first

  -- a front of the lines of entries was printed, and not all of it
  pub record PrintsPart : Type 0 where
    pub first : List Entry
    pub part : GainsPart printed printed_now (log_text first)
    pub told : (r : Repository) → held ≡ Some r → BeginsHistory r first

  -- the log breaks at this id, which is not yet told; no line was printed where the store tells
  pub record FindsBreak (id : List ℕ) : Type 0 where
    pub first : List Entry
    pub gained : printed_now ≡ with_end printed (log_text first)
    pub told : (r : Repository) → held ≡ Some r → (first ≡ []) × IsBreakOf r id

  -- the line of the break was printed, and where the store tells nothing else
  pub record PrintsBreak (id : List ℕ) : Type 0 where
    pub first : List Entry
    pub gained : printed_now ≡ with_end printed (log_text first ++ break_line id)
    pub told : (r : Repository) → held ≡ Some r → (first ≡ []) × IsBreakOf r id

  -- a front of the line of a break was printed, and not all of it
  pub record PrintsBreakPart : Type 0 where
    pub id : List ℕ
    pub first : List Entry
    pub part : GainsPart printed printed_now (log_text first ++ break_line id)
    pub told : (r : Repository) → held ≡ Some r → (first ≡ []) × IsBreakOf r id

  -- what printing the entries comes to, before a break is told
  abbrev pub Prints : Result ℕ LogCommandFault → Type 0
  Prints (Ok count) = PrintsLog count
  Prints (Err (Broken id)) = FindsBreak id
  Prints (Err KeeperFailed) = PrintsFront
  Prints (Err SinkFailed) = PrintsPart
  Prints (Err Memory) = PrintsFront

  -- what each outcome means: the log was printed, or the line of its break, or a front of one of these
  abbrev pub LogEnds : Result ℕ LogCommandFault → Type 0
  LogEnds (Ok count) = PrintsLog count
  LogEnds (Err (Broken id)) = PrintsBreak id
  LogEnds (Err KeeperFailed) = PrintsFront
  LogEnds (Err SinkFailed) = PrintsPart ⊎ PrintsBreakPart
  LogEnds (Err Memory) = PrintsFront
