-- A repository has one log with its entries at most.
use Rattle.std.proofs.Common.{◌≡◌, ℕ, List, [], ◌∷◌, length, map, Some, refl, sym, ap, ◌∙◌}
use Rattle.std.specs.Prelude.{Ok, Err, Result}
use Rattle.std.specs.FinMap.{get}
use Rattle.git_object.specs.Names.{log_name}
use Rattle.git_object.specs.Repository.{Repository}
use Rattle.rsl_chain.specs.declared.entries.Entry.{Entry}
use Rattle.rsl_chain.specs.Chain.{NeverBoth, OneBreak, OneLog}
use Rattle.rsl_chain.specs.Logs.{entry_at, heads_of}
use Rattle.rsl_chain.specs.Histories.{IsHistory}
use Rattle.commands_log.specs.Laws.{LogComes}
use Rattle.commands_log.specs.declared.faults.LogCommandFault.{LogCommandFault}
use Rattle.commands_log.specs.declared.faults.LogCommandFault.TheVariants.{Broken, KeeperFailed, SinkFailed, Memory}

somes : (xs ys : List Entry) → map Some xs ≡ map Some ys → xs ≡ ys
somes [] [] e = refl
somes [] (y ∷ ys) e = cc e
somes (x ∷ xs) [] e = cc e
somes (x ∷ xs) (y ∷ ys) e =
    let here : x ≡ y = cc e in
    let rest : map Some xs ≡ map Some ys = cc e in
    let more = somes xs ys rest in
    λ i. here i ∷ more i

module _ (one : OneLog) (once : OneBreak) (apart : NeverBoth) (was : Repository) where
  pub same_history : (xs ys : List Entry) → IsHistory was xs → IsHistory was ys → xs ≡ ys
  same_history xs ys is other =
      let ids = one (heads_of was) (get was.refs log_name) is.ids other.ids is.log other.log in
      somes xs ys (sym is.are ∙ ap (map (entry_at was)) ids ∙ other.are)

  pub same_log : (a b : Result ℕ LogCommandFault) → LogComes was a → LogComes was b → a ≡ b
  same_log (Ok m) (Ok n) is other = ap Ok (sym is.2 ∙ ap length (same_history is.0 other.0 is.1 other.1) ∙ other.2)
  same_log (Ok m) (Err (Broken id)) is other = let log = is.1 in absurd (apart (heads_of was) (get was.refs log_name) log.ids id log.log other)
  same_log (Err (Broken id)) (Ok n) is other = let log = other.1 in absurd (apart (heads_of was) (get was.refs log_name) log.ids id log.log is)
  same_log (Err (Broken id)) (Err (Broken found)) is other = ap (λ (i : List ℕ). Err (Broken i)) (once (heads_of was) (get was.refs log_name) id found is other)
  same_log (Err KeeperFailed) b is other = absurd is
  same_log (Err SinkFailed) b is other = absurd is
  same_log (Err Memory) b is other = absurd is
  same_log a (Err KeeperFailed) is other = absurd other
  same_log a (Err SinkFailed) is other = absurd other
  same_log a (Err Memory) is other = absurd other
