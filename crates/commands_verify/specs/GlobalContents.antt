-- What the command comes to where the store tells what it holds: one outcome, faults and memory aside.
use Rattle.std.specs.Prelude.{ℕ, List, Option, Result, Ok, Err}
use Rattle.git_object.specs.Repository.{Repository}
use Rattle.rsl_chain.specs.Logs.{IsBreakOf}
use Rattle.global_verdicts.specs.Verdicts.{IsGlobal}
use Rattle.global_verdicts.specs.declared.verdicts.GlobalVerdict.{GlobalVerdict}
use Rattle.commands_verify.specs.GlobalJudging.{anchor_of}
use Rattle.commands_verify.specs.declared.global_verifying.VerifyFault.{VerifyFault}
use Rattle.commands_verify.specs.declared.global_verifying.VerifyFault.TheVariants.{LogBroken, KeeperFailed}
use Rattle.commands_verify.specs.declared.global_verifying.VerifyFault.TheVariants.{SinkFailed, Memory}

abbrev pub GlobalComes : List ℕ → Option (List (List ℕ)) → Repository → Result GlobalVerdict VerifyFault → Type 0
GlobalComes name root held (Ok verdict) = IsGlobal held name (anchor_of root) verdict
GlobalComes name root held (Err (LogBroken id)) = IsBreakOf held id
GlobalComes name root held (Err KeeperFailed) = ⊥
GlobalComes name root held (Err SinkFailed) = ⊥
GlobalComes name root held (Err Memory) = ⊥
