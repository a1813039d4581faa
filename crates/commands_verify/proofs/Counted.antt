-- The counts of faults after judging are those of its ending.
use Rattle.std.proofs.Common.{◌≡◌, ℕ, List, refl, subst}
use Rattle.std.specs.Prelude.{Option, None, Result, Ok, Err}
use Rattle.octets.specs.Causes.{HasCause}
use Rattle.git_object.specs.Repository.{Repository}
use Rattle.worlds.specs.Counts.{Faults, IsCounted}
use Rattle.worlds.specs.Endings.{part_of}
use Rattle.worlds.specs.declared.ending.Ending.TheVariants as ending
use Rattle.worlds.specs.declared.ending.Refusal.TheVariants as refusal
use Rattle.worlds.proofs.Counting.{keeper_failed, keeper_quiet}
use Rattle.global_verdicts.specs.declared.verdicts.GlobalVerdict.{GlobalVerdict}
use Rattle.global_verdicts.specs.declared.verdicts.GlobalVerdict.TheVariants.{Kept, Violation}
use Rattle.commands_verify.specs.GlobalJudging.{Judges, judge_failed}
use Rattle.commands_verify.specs.GlobalVerifying.{global_ending}
use Rattle.commands_verify.specs.declared.global_verifying.VerifyFault.{VerifyFault}
use Rattle.commands_verify.specs.declared.global_verifying.VerifyFault.TheVariants.{LogBroken, KeeperFailed, SinkFailed, Memory}

pub verdict_quiet : (verdict : GlobalVerdict) → part_of (global_ending (Ok verdict)) ≡ None
verdict_quiet (Kept count) = refl
verdict_quiet (Violation number why) = refl

pub judge_counted : (name : List ℕ) (root : Option (List (List ℕ))) (held : Option Repository) (f : Faults) (now : ℕ) (outcome : Result GlobalVerdict VerifyFault) → Judges name root held outcome → HasCause judge_failed f.keeper now outcome
    → IsCounted (global_ending outcome) f (record f { keeper = now })
judge_counted name root held f now (Ok verdict) judges cause = keeper_quiet (global_ending (Ok verdict)) f now (verdict_quiet verdict) cause.later cause.is
judge_counted name root held f now (Err (LogBroken id)) judges cause = keeper_quiet ending.Broken f now refl cause.later cause.is
judge_counted name root held f now (Err KeeperFailed) judges cause = keeper_failed f now cause.later cause.is
judge_counted name root held f now (Err SinkFailed) judges cause = absurd judges
judge_counted name root held f now (Err Memory) judges cause = keeper_quiet (ending.Refused refusal.Memory) f now refl cause.later cause.is

-- an outcome that is another's
pub counted_by : (judged outcome : Result GlobalVerdict VerifyFault) (before after : Faults) → judged ≡ outcome → IsCounted (global_ending judged) before after → IsCounted (global_ending outcome) before after
counted_by judged outcome before after same counted = subst (λ (o : Result GlobalVerdict VerifyFault). IsCounted (global_ending o) before after) same counted
