-- What each outcome of `demo` means.
use Rattle.std.specs.Prelude.{◌≡◌, ◌⊎◌, ◌++◌, ℕ, List, Bool, true, false, Option, Some, None, Result, Ok, Err, codes}
use Rattle.std.specs.Prelude.{decimal}
use Rattle.octets.specs.Content.{GainsPart, with_end}
use Rattle.git_object.specs.Repository.{Repository}
use Rattle.keeper_api.specs.declared.keepers.Keeper as keeper
use Rattle.rsl_chain.specs.Logs.{IsBreakOf}
use Rattle.rsl_chain.specs.declared.log_faults.LogFault.{LogFault}
use Rattle.rsl_chain.specs.declared.log_faults.LogFault.TheVariants as log
use Rattle.judging.specs.declared.verdicts.Verdict.{Verdict}
use Rattle.judging.specs.declared.verdicts.Verdict.TheVariants.{Accepted, TipDiffers, Violation}
use Rattle.entry_rules.specs.declared.faults.Fault.{Fault}
use Rattle.verify_ref.specs.Lines.{line}
use Rattle.verify_ref.specs.Verdicts.{IsVerdict}
use Rattle.worlds.specs.Breaks.{break_line}
use Rattle.worlds.specs.declared.ending.Ending.{Ending}
use Rattle.worlds.specs.declared.ending.Ending.TheVariants.{Done, Differs, Broken, Refused}
use Rattle.worlds.specs.declared.ending.Part.TheVariants as part
use Rattle.worlds.specs.declared.ending.Refusal.TheVariants as refusal
use Rattle.demo.specs.Histories.{main_name}
use Rattle.demo.specs.Filling.{FillEnds, Fills}
use Rattle.demo.specs.declared.running.DemoFault.{DemoFault}
use Rattle.demo.specs.declared.running.DemoFault.TheVariants.{Unfilled, LogBroken, KeeperFailed, SinkFailed, Memory}
use Rattle.demo.specs.declared.filling.FillFault.{FillFault}
use Rattle.demo.specs.declared.filling.FillFault.TheVariants as fill

-- ---- how the program ends
abbrev pub fill_ending : FillFault → Ending
fill_ending fill.KeeperFailed = Refused (refusal.Fault part.Keeper)
fill_ending fill.NotEmpty = Refused refusal.NotEmpty
fill_ending fill.Memory = Refused refusal.Memory
fill_ending fill.CommitFailed = Refused (refusal.Fault part.Keeper)

abbrev pub demo_ending : Result (Verdict Fault) DemoFault → Ending
demo_ending (Ok (Accepted count)) = Done
demo_ending (Ok (TipDiffers kept recorded)) = Differs
demo_ending (Ok (Violation number fault)) = Differs
demo_ending (Err (Unfilled fault)) = fill_ending fault
demo_ending (Err (LogBroken id)) = Broken
demo_ending (Err KeeperFailed) = Refused (refusal.Fault part.Keeper)
demo_ending (Err SinkFailed) = Refused (refusal.Fault part.Sink)
demo_ending (Err Memory) = Refused refusal.Memory

-- the fault that the store counts
abbrev pub keeper_failed : DemoFault → Bool
keeper_failed (Unfilled fill.KeeperFailed) = true
keeper_failed (Unfilled fill.NotEmpty) = false
keeper_failed (Unfilled fill.Memory) = false
keeper_failed (Unfilled fill.CommitFailed) = true
keeper_failed (LogBroken id) = false
keeper_failed KeeperFailed = true
keeper_failed SinkFailed = false
keeper_failed Memory = false

-- a refusal of the verdict once the store is filled
abbrev pub judge_fault : LogFault → DemoFault
judge_fault (log.Broken id) = LogBroken id
judge_fault log.Failed = KeeperFailed
judge_fault log.Memory = Memory

-- ---- what is printed
-- how many changes there are, and the verdict's line
abbrev pub demo_lines : ℕ → Verdict Fault → List ℕ
demo_lines n verdict = codes "demo " ++ decimal n ++ codes "\n" ++ line main_name verdict

-- ---- what it means
module _ (n : ℕ) {R : Type 0} (keeper_of : keeper.Ghosts R) (old new : R) where
  -- the store was filled, and this is the verdict on the branch of the repository that it then tells, under no given
  -- root
  pub record FindsVerdict (verdict : Verdict Fault) : Type 0 where
    pub fills : Fills n keeper_of old new
    pub is : (r : Repository) → keeper_of.content new ≡ Some r → IsVerdict r main_name None verdict

  -- the store was filled, and the log of the repository that it then tells breaks at this id
  pub record FindsBreak (id : List ℕ) : Type 0 where
    pub fills : Fills n keeper_of old new
    pub breaks : (r : Repository) → keeper_of.content new ≡ Some r → IsBreakOf r id

  -- what filling and judging come to, before anything is printed
  abbrev pub JudgeEnds : Result (Verdict Fault) DemoFault → Type 0
  JudgeEnds (Ok verdict) = FindsVerdict verdict
  JudgeEnds (Err (Unfilled fault)) = FillEnds n keeper_of old new (Err fault)
  JudgeEnds (Err (LogBroken id)) = FindsBreak id
  JudgeEnds (Err KeeperFailed) = Fills n keeper_of old new
  JudgeEnds (Err SinkFailed) = ⊥
  JudgeEnds (Err Memory) = Fills n keeper_of old new

  -- a verdict was found, and a front of the lines was printed, and not all
  abbrev pub PrintsPart : Option (List ℕ) → Option (List ℕ) → Type 0
  PrintsPart printed printed_now = (verdict : Verdict Fault) × FindsVerdict verdict
      × GainsPart printed printed_now (demo_lines n verdict)

  -- a break was found, and a front of its line was printed, and not all
  abbrev pub PrintsBreakPart : Option (List ℕ) → Option (List ℕ) → Type 0
  PrintsBreakPart printed printed_now = (id : List ℕ) × FindsBreak id × GainsPart printed printed_now (break_line id)

  abbrev pub DemoEnds : Option (List ℕ) → Option (List ℕ) → Result (Verdict Fault) DemoFault → Type 0
  DemoEnds printed printed_now (Ok verdict) = FindsVerdict verdict
      × (printed_now ≡ with_end printed (demo_lines n verdict))
  DemoEnds printed printed_now (Err (Unfilled fault)) = FillEnds n keeper_of old new (Err fault)
      × (printed_now ≡ printed)
  DemoEnds printed printed_now (Err (LogBroken id)) = FindsBreak id × (printed_now ≡ with_end printed (break_line id))
  DemoEnds printed printed_now (Err KeeperFailed) = Fills n keeper_of old new × (printed_now ≡ printed)
  DemoEnds printed printed_now (Err SinkFailed) = PrintsPart printed printed_now ⊎ PrintsBreakPart printed printed_now
  DemoEnds printed printed_now (Err Memory) = Fills n keeper_of old new × (printed_now ≡ printed)
