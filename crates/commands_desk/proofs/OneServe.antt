-- A repository comes to one outcome at most.
use Rattle.std.proofs.Common.{◌≡◌, ℕ, List, length, sym, ap, ◌∙◌}
use Rattle.std.specs.Prelude.{Ok, Err, Result}
use Rattle.std.specs.FinMap.{get}
use Rattle.git_object.specs.Names.{log_name}
use Rattle.git_object.specs.Repository.{Repository}
use Rattle.rsl_chain.specs.Chain.{NeverBoth, OneBreak, OneLog}
use Rattle.rsl_chain.specs.Logs.{heads_of}
use Rattle.commands_desk.specs.Laws.{ServeComes}
use Rattle.commands_desk.specs.declared.readying.ServeFault.{ServeFault}
use Rattle.commands_desk.specs.declared.readying.ServeFault.TheVariants.{LogBroken, KeeperFailed, SinkFailed, Memory}

module _ (one : OneLog) (once : OneBreak) (apart : NeverBoth) (was : Repository) where
  pub same_serve : (a b : Result ℕ ServeFault) → ServeComes was a → ServeComes was b → a ≡ b
  same_serve (Ok m) (Ok n) is other =
      ap Ok (sym is.many ∙ ap length (one (heads_of was) (get was.refs log_name) is.ids other.ids is.log other.log) ∙ other.many)
  same_serve (Ok m) (Err (LogBroken id)) is other = absurd (apart (heads_of was) (get was.refs log_name) is.ids id is.log other)
  same_serve (Err (LogBroken id)) (Ok n) is other = absurd (apart (heads_of was) (get was.refs log_name) other.ids id other.log is)
  same_serve (Err (LogBroken id)) (Err (LogBroken found)) is other = ap (λ (i : List ℕ). Err (LogBroken i)) (once (heads_of was) (get was.refs log_name) id found is other)
  same_serve (Err KeeperFailed) b is other = absurd is
  same_serve (Err SinkFailed) b is other = absurd is
  same_serve (Err Memory) b is other = absurd is
  same_serve a (Err KeeperFailed) is other = absurd other
  same_serve a (Err SinkFailed) is other = absurd other
  same_serve a (Err Memory) is other = absurd other
