-- What each outcome of `verify-ref` means.
use Rattle.std.specs.Prelude.{◌≡◌, ◌⊎◌, ℕ, List, Option, Some, Result, Ok, Err, Bool, IsTrue}
use Rattle.octets.specs.Content.{GainsPart, with_end}
use Rattle.git_object.specs.Repository.{Repository}
use Rattle.keeper_api.specs.declared.keepers.Keeper as keeper
use Rattle.rsl_chain.specs.Logs.{IsBreakOf}
use Rattle.worlds.specs.Breaks.{break_line}
use Rattle.worlds.specs.declared.ending.Ending.{Ending}
use Rattle.worlds.specs.declared.ending.Ending.TheVariants.{Done, Differs, Broken, Refused}
use Rattle.worlds.specs.declared.ending.Part.TheVariants as part
use Rattle.worlds.specs.declared.ending.Refusal.TheVariants as refusal
use Rattle.commands_stream.specs.Taking.{DeclinesTaking, Opens, take_refusal}
use Rattle.verify_ref.specs.Lines.{line}
use Rattle.verify_ref.specs.Verdicts.{IsVerdict}
use Rattle.commands_verify.specs.Verdicts.{RefVerdict, anchor_of}
use Rattle.judging.specs.declared.verdicts.Verdict.TheVariants.{Accepted, TipDiffers, Violation}
use Rattle.commands_verify.specs.declared.verifying.VerifyFault.{VerifyFault}
use Rattle.commands_verify.specs.declared.verifying.VerifyFault.TheVariants.{Unopened, LogBroken, KeeperFailed}
use Rattle.commands_verify.specs.declared.verifying.VerifyFault.TheVariants.{SinkFailed, Memory}

-- how the program ends
abbrev pub verify_ending : Result RefVerdict VerifyFault → Ending
verify_ending (Ok (Accepted count)) = Done
verify_ending (Ok (TipDiffers kept recorded)) = Differs
verify_ending (Ok (Violation number fault)) = Differs
verify_ending (Err (Unopened fault)) = Refused (take_refusal fault)
verify_ending (Err (LogBroken id)) = Broken
verify_ending (Err KeeperFailed) = Refused (refusal.Fault part.Keeper)
verify_ending (Err SinkFailed) = Refused (refusal.Fault part.Sink)
verify_ending (Err Memory) = Refused refusal.Memory

module _ (name : List ℕ) (root : Option (List (List ℕ))) (stdin : Bool) {R : Type 0} (keeper_of : keeper.Ghosts R)
    (left left_now : Option (List ℕ)) (old new : R) where
  -- the repository is open, and this is the verdict on what the store then tells
  pub record FindsVerdict (verdict : RefVerdict) : Type 0 where
    pub opens : Opens stdin keeper_of left left_now old new
    pub is : (r : Repository) → keeper_of.content new ≡ Some r → IsVerdict r name (anchor_of root) verdict

  -- the repository is open, and its log breaks at this id
  pub record FindsBreak (id : List ℕ) : Type 0 where
    pub opens : Opens stdin keeper_of left left_now old new
    pub breaks : (r : Repository) → keeper_of.content new ≡ Some r → IsBreakOf r id

  -- what looking for the verdict comes to, before anything is printed
  abbrev pub LookEnds : Result RefVerdict VerifyFault → Type 0
  LookEnds (Ok verdict) = FindsVerdict verdict
  LookEnds (Err (Unopened fault)) = IsTrue stdin × DeclinesTaking keeper_of left left_now old new fault
  LookEnds (Err (LogBroken id)) = FindsBreak id
  LookEnds (Err KeeperFailed) = Opens stdin keeper_of left left_now old new
  LookEnds (Err SinkFailed) = ⊥
  LookEnds (Err Memory) = Opens stdin keeper_of left left_now old new

  module _ (printed printed_now : Option (List ℕ)) where
    -- exactly the verdict's line was printed
    pub record AnswersVerdict (verdict : RefVerdict) : Type 0 where
      pub finds : FindsVerdict verdict
      pub printed_is : printed_now ≡ with_end printed (line name verdict)

    -- a verdict was found, and a front of its line was printed, and not all
    pub record AnswersPart : Type 0 where
      pub verdict : RefVerdict
      pub finds : FindsVerdict verdict
      pub part : GainsPart printed printed_now (line name verdict)

    -- a break was found, and exactly the line that tells it was printed
    pub record AnswersBreak (id : List ℕ) : Type 0 where
      pub finds : FindsBreak id
      pub printed_is : printed_now ≡ with_end printed (break_line id)

    -- a break was found, and a front of its line was printed, and not all
    pub record AnswersBreakPart : Type 0 where
      pub id : List ℕ
      pub finds : FindsBreak id
      pub part : GainsPart printed printed_now (break_line id)

    -- there is no verdict, and nothing was printed
    pub record AnswersNothing (fault : VerifyFault) : Type 0 where
      pub why : LookEnds (Err fault)
      pub unprinted : printed_now ≡ printed

    abbrev pub VerifyEnds : Result RefVerdict VerifyFault → Type 0
    VerifyEnds (Ok verdict) = AnswersVerdict verdict
    VerifyEnds (Err (Unopened fault)) = AnswersNothing (Unopened fault)
    VerifyEnds (Err (LogBroken id)) = AnswersBreak id
    VerifyEnds (Err KeeperFailed) = AnswersNothing KeeperFailed
    VerifyEnds (Err SinkFailed) = AnswersPart ⊎ AnswersBreakPart
    VerifyEnds (Err Memory) = AnswersNothing Memory
