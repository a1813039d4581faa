-- There is at most one outcome for the same words and content.
use Rattle.std.proofs.Common.{◌≡◌, ℕ, List, ap}
use Rattle.std.specs.Prelude.{Option, Ok, Err, Result}
use Rattle.std.specs.FinMap.{get}
use Rattle.git_object.specs.Names.{log_name}
use Rattle.git_object.specs.Repository.{Repository}
use Rattle.rsl_chain.specs.Chain.{OneBreak}
use Rattle.rsl_chain.specs.Logs.{heads_of}
use Rattle.global_verdicts.specs.declared.verdicts.GlobalVerdict.{GlobalVerdict}
use Rattle.global_verdicts.proofs.OneGlobal.{global_or_break, one_global}
use Rattle.commands_verify.specs.GlobalContents.{GlobalComes}
use Rattle.commands_verify.specs.GlobalJudging.{anchor_of}
use Rattle.commands_verify.specs.declared.global_verifying.VerifyFault.{VerifyFault}
use Rattle.commands_verify.specs.declared.global_verifying.VerifyFault.TheVariants.{LogBroken, KeeperFailed, SinkFailed, Memory}

module _ (once : OneBreak) (name : List ℕ) (root : Option (List (List ℕ))) (held : Repository) where
  pub same_global : (a b : Result GlobalVerdict VerifyFault) → GlobalComes name root held a → GlobalComes name root held b → a ≡ b
  same_global (Ok v) (Ok w) is other = ap Ok (one_global held name (anchor_of root) v w is other)
  same_global (Ok v) (Err (LogBroken id)) is other = absurd (global_or_break held name (anchor_of root) v id is other)
  same_global (Err (LogBroken id)) (Ok w) is other = absurd (global_or_break held name (anchor_of root) w id other is)
  same_global (Err (LogBroken id)) (Err (LogBroken found)) is other = ap (λ (i : List ℕ). Err (LogBroken i)) (once (heads_of held) (get held.refs log_name) id found is other)
  same_global (Err KeeperFailed) b is other = absurd is
  same_global (Err SinkFailed) b is other = absurd is
  same_global (Err Memory) b is other = absurd is
  same_global a (Err KeeperFailed) is other = absurd other
  same_global a (Err SinkFailed) is other = absurd other
  same_global a (Err Memory) is other = absurd other
