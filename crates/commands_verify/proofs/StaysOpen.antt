-- A store that was opened stays open where it is only looked at, and what looking there comes to.
use Rattle.std.proofs.Common.{◌≡◌, inl, inr, List, ℕ, refl, subst}
use Rattle.std.specs.Prelude.{Bool, Option, None, Result, Ok, Err}
use Rattle.octets.specs.Causes.{HasCause}
use Rattle.git_object.specs.Repository.{Repository}
use Rattle.keeper_api.proofs.Coming.{as_before_then}
use Rattle.keeper_api.specs.Undisturbed.{Undisturbed}
use Rattle.keeper_api.specs.declared.keepers.Keeper as keeper
use Rattle.clone_stream.specs.Taking.{TakesInto}
use Rattle.worlds.specs.Counts.{Faults, IsCounted}
use Rattle.worlds.specs.Endings.{part_of}
use Rattle.worlds.specs.declared.ending.Ending.TheVariants as ending
use Rattle.worlds.specs.declared.ending.Refusal.TheVariants as refusal
use Rattle.worlds.proofs.Counting.{keeper_failed, keeper_quiet}
use Rattle.commands_verify.specs.Judging.{Judges, judge_failed}
use Rattle.commands_stream.specs.Taking.{Opens}
use Rattle.commands_verify.specs.Verdicts.{RefVerdict}
use Rattle.commands_verify.specs.Verifying.{LookEnds, verify_ending}
use Rattle.judging.specs.declared.verdicts.Verdict.TheVariants.{Accepted, TipDiffers, Violation}
use Rattle.commands_verify.specs.declared.verifying.VerifyFault.{VerifyFault}
use Rattle.commands_verify.specs.declared.verifying.VerifyFault.TheVariants.{Unopened, LogBroken, KeeperFailed, SinkFailed, Memory}

pub verdict_quiet : (verdict : RefVerdict) → part_of (verify_ending (Ok verdict)) ≡ None
verdict_quiet (Accepted count) = refl
verdict_quiet (TipDiffers kept recorded) = refl
verdict_quiet (Violation number fault) = refl

module _ {R : Type 0} (keeper_of : keeper.Ghosts R) (left left_now : Option (List ℕ)) (old mid new : R) (same : Undisturbed keeper_of mid new) where
  still_same : Undisturbed keeper_of old mid → Undisturbed keeper_of old new
  still_same first = as_before_then keeper_of old mid new first same

  still_taken : TakesInto keeper_of left left_now old mid → TakesInto keeper_of left left_now old new
  still_taken took = record {
    takes = record {
      bytes = took.takes.bytes;
      repository = took.takes.repository;
      was_read = took.takes.was_read;
      text = took.takes.text;
      held = λ r told. took.takes.held r (same.content r told);
    };
    tells = λ told. took.tells (same.tells told);
    stop = λ told now is r here. took.stop (same.tells told) now (same.content now is) r (same.left told r here);
  }

  pub still_open : (stdin : Bool) → Opens stdin keeper_of left left_now old mid → Opens stdin keeper_of left left_now old new
  still_open stdin (inl took) = inl (took.0, still_taken took.1)
  still_open stdin (inr unread) = inr (unread.0, unread.1, still_same unread.2)

  -- what judging comes to in a store that was opened
  pub looked : (name : List ℕ) (root : Option (List (List ℕ))) (stdin : Bool) (outcome : Result RefVerdict VerifyFault) → Opens stdin keeper_of left left_now old mid → Judges name root (keeper_of.content new) outcome
      → LookEnds name root stdin keeper_of left left_now old new outcome
  looked name root stdin (Ok verdict) opens judges = record { opens = still_open stdin opens; is = judges }
  looked name root stdin (Err (Unopened fault)) opens judges = absurd judges
  looked name root stdin (Err (LogBroken id)) opens judges = record { opens = still_open stdin opens; breaks = judges }
  looked name root stdin (Err KeeperFailed) opens judges = still_open stdin opens
  looked name root stdin (Err SinkFailed) opens judges = absurd judges
  looked name root stdin (Err Memory) opens judges = still_open stdin opens

-- what it counts
pub judge_counted : (name : List ℕ) (root : Option (List (List ℕ))) (held : Option Repository) (f : Faults) (now : ℕ) (outcome : Result RefVerdict VerifyFault) → Judges name root held outcome → HasCause judge_failed f.keeper now outcome
    → IsCounted (verify_ending outcome) f (record f { keeper = now })
judge_counted name root held f now (Ok verdict) judges cause = keeper_quiet (verify_ending (Ok verdict)) f now (verdict_quiet verdict) cause.later cause.is
judge_counted name root held f now (Err (Unopened fault)) judges cause = absurd judges
judge_counted name root held f now (Err (LogBroken id)) judges cause = keeper_quiet ending.Broken f now refl cause.later cause.is
judge_counted name root held f now (Err KeeperFailed) judges cause = keeper_failed f now cause.later cause.is
judge_counted name root held f now (Err SinkFailed) judges cause = absurd judges
judge_counted name root held f now (Err Memory) judges cause = keeper_quiet (ending.Refused refusal.Memory) f now refl cause.later cause.is

-- an outcome that is another's
pub counted_by : (looked outcome : Result RefVerdict VerifyFault) (before after : Faults) → looked ≡ outcome → IsCounted (verify_ending looked) before after → IsCounted (verify_ending outcome) before after
counted_by looked outcome before after same counted = subst (λ (o : Result RefVerdict VerifyFault). IsCounted (verify_ending o) before after) same counted
