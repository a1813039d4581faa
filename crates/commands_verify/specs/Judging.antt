-- What looking for the verdict in the store that is open comes to.
use Rattle.std.specs.Prelude.{◌≡◌, ℕ, Bool, true, false, List, Option, Some, Result, Ok, Err}
use Rattle.git_object.specs.Repository.{Repository}
use Rattle.rsl_chain.specs.Logs.{IsBreakOf}
use Rattle.rsl_chain.specs.declared.log_faults.LogFault.{LogFault}
use Rattle.rsl_chain.specs.declared.log_faults.LogFault.TheVariants as log
use Rattle.verify_ref.specs.Verdicts.{IsVerdict}
use Rattle.commands_verify.specs.Verdicts.{RefVerdict, anchor_of}
use Rattle.commands_verify.specs.declared.verifying.VerifyFault.{VerifyFault}
use Rattle.commands_verify.specs.declared.verifying.VerifyFault.TheVariants.{Unopened, LogBroken, KeeperFailed}
use Rattle.commands_verify.specs.declared.verifying.VerifyFault.TheVariants.{SinkFailed, Memory}

-- the fault that the store counts
abbrev pub judge_failed : VerifyFault → Bool
judge_failed (Unopened fault) = false
judge_failed (LogBroken id) = false
judge_failed KeeperFailed = true
judge_failed SinkFailed = false
judge_failed Memory = false

abbrev pub fault_of : LogFault → VerifyFault
fault_of (log.Broken id) = LogBroken id
fault_of log.Failed = KeeperFailed
fault_of log.Memory = Memory

-- what judging a reference comes to, where the store tells
abbrev pub Judges : List ℕ → Option (List (List ℕ)) → Option Repository → Result RefVerdict VerifyFault → Type 0
Judges name root held (Ok verdict) = (r : Repository) → held ≡ Some r → IsVerdict r name (anchor_of root) verdict
Judges name root held (Err (Unopened fault)) = ⊥
Judges name root held (Err (LogBroken id)) = (r : Repository) → held ≡ Some r → IsBreakOf r id
Judges name root held (Err KeeperFailed) = Unit {0}
Judges name root held (Err SinkFailed) = ⊥
Judges name root held (Err Memory) = Unit {0}
