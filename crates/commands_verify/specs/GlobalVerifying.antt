-- What each outcome of `verify-global` means.
use Rattle.std.specs.Prelude.{◌≡◌, ◌⊎◌, ℕ, List, Option, Result, Ok, Err}
use Rattle.octets.specs.Content.{GainsPart, with_end}
use Rattle.git_object.specs.Repository.{Repository}
use Rattle.worlds.specs.Breaks.{break_line}
use Rattle.worlds.specs.declared.ending.Ending.{Ending}
use Rattle.worlds.specs.declared.ending.Ending.TheVariants.{Done, Differs, Broken, Refused}
use Rattle.worlds.specs.declared.ending.Part.TheVariants as part
use Rattle.worlds.specs.declared.ending.Refusal.TheVariants as refusal
use Rattle.global_verdicts.specs.Lines.{global_line}
use Rattle.global_verdicts.specs.declared.verdicts.GlobalVerdict.{GlobalVerdict}
use Rattle.global_verdicts.specs.declared.verdicts.GlobalVerdict.TheVariants.{Kept, Violation}
use Rattle.commands_verify.specs.GlobalJudging.{Judges}
use Rattle.commands_verify.specs.declared.global_verifying.VerifyFault.{VerifyFault}
use Rattle.commands_verify.specs.declared.global_verifying.VerifyFault.TheVariants.{LogBroken, KeeperFailed}
use Rattle.commands_verify.specs.declared.global_verifying.VerifyFault.TheVariants.{SinkFailed, Memory}

-- how the program ends
abbrev pub global_ending : Result GlobalVerdict VerifyFault → Ending
global_ending (Ok (Kept count)) = Done
global_ending (Ok (Violation number why)) = Differs
global_ending (Err (LogBroken id)) = Broken
global_ending (Err KeeperFailed) = Refused (refusal.Fault part.Keeper)
global_ending (Err SinkFailed) = Refused (refusal.Fault part.Sink)
global_ending (Err Memory) = Refused refusal.Memory

module _ (name : List ℕ) (root : Option (List (List ℕ))) (held : Option Repository)
    (printed printed_now : Option (List ℕ)) where
  -- the verdict on what the store tells, and exactly its line was printed
  pub record AnswersVerdict (verdict : GlobalVerdict) : Type 0 where
    pub finds : Judges name root held (Ok verdict)
    pub printed_is : printed_now ≡ with_end printed (global_line name verdict)

  -- a verdict was found, and a front of its line was printed, and not all
  pub record AnswersPart : Type 0 where
    pub verdict : GlobalVerdict
    pub finds : Judges name root held (Ok verdict)
    pub part : GainsPart printed printed_now (global_line name verdict)

  -- the log breaks at this id, and exactly the line that tells it was printed
  pub record AnswersBreak (id : List ℕ) : Type 0 where
    pub finds : Judges name root held (Err (LogBroken id))
    pub printed_is : printed_now ≡ with_end printed (break_line id)

  -- it breaks, and a front of that line was printed, and not all
  pub record AnswersBreakPart : Type 0 where
    pub id : List ℕ
    pub finds : Judges name root held (Err (LogBroken id))
    pub part : GainsPart printed printed_now (break_line id)

  abbrev pub GlobalEnds : Result GlobalVerdict VerifyFault → Type 0
  GlobalEnds (Ok verdict) = AnswersVerdict verdict
  GlobalEnds (Err (LogBroken id)) = AnswersBreak id
  GlobalEnds (Err KeeperFailed) = printed_now ≡ printed
  GlobalEnds (Err SinkFailed) = AnswersPart ⊎ AnswersBreakPart
  GlobalEnds (Err Memory) = printed_now ≡ printed
