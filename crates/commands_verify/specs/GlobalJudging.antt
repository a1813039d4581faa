-- What looking for the verdict in the store comes to.
use Rattle.std.specs.Prelude.{◌≡◌, ℕ, Bool, true, false, List, Option, Some, None, Result, Ok, Err}
use Rattle.git_object.specs.Repository.{Repository}
use Rattle.root_metadata.specs.Shapes.{set_of}
use Rattle.rsl_chain.specs.Logs.{IsBreakOf}
use Rattle.rsl_chain.specs.declared.log_faults.LogFault.{LogFault}
use Rattle.rsl_chain.specs.declared.log_faults.LogFault.TheVariants as log
use Rattle.global_verdicts.specs.Verdicts.{IsGlobal}
use Rattle.global_verdicts.specs.declared.verdicts.GlobalVerdict.{GlobalVerdict}
use Rattle.commands_verify.specs.declared.global_verifying.VerifyFault.{VerifyFault}
use Rattle.commands_verify.specs.declared.global_verifying.VerifyFault.TheVariants.{LogBroken, KeeperFailed}
use Rattle.commands_verify.specs.declared.global_verifying.VerifyFault.TheVariants.{SinkFailed, Memory}

-- the ids as a set, where they are given
abbrev pub anchor_of : Option (List (List ℕ)) → Option (List (List ℕ))
anchor_of None = None
anchor_of (Some ids) = Some (set_of ids)

-- the fault that the store counts
abbrev pub judge_failed : VerifyFault → Bool
judge_failed (LogBroken id) = false
judge_failed KeeperFailed = true
judge_failed SinkFailed = false
judge_failed Memory = false

abbrev pub fault_of : LogFault → VerifyFault
fault_of (log.Broken id) = LogBroken id
fault_of log.Failed = KeeperFailed
fault_of log.Memory = Memory

-- what judging a reference comes to, where the store tells
abbrev pub Judges : List ℕ → Option (List (List ℕ)) → Option Repository → Result GlobalVerdict VerifyFault → Type 0
Judges name root held (Ok verdict) = (r : Repository) → held ≡ Some r → IsGlobal r name (anchor_of root) verdict
Judges name root held (Err (LogBroken id)) = (r : Repository) → held ≡ Some r → IsBreakOf r id
Judges name root held (Err KeeperFailed) = Unit {0}
Judges name root held (Err SinkFailed) = ⊥
Judges name root held (Err Memory) = Unit {0}
