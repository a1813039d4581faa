-- `record` comes to one outcome at most.
use Rattle.std.proofs.Common.{◌≡◌, ◌<◌, ℕ, List, length, refl, ap, ◌∙◌, subst}
use Rattle.std.specs.Prelude.{Result, Ok, Err}
use Rattle.std.proofs.Math.Nat.{lt_irrefl}
use Rattle.std.specs.FinMap.{get}
use Rattle.git_object.specs.Names.{log_name}
use Rattle.git_object.specs.Repository.{Repository}
use Rattle.leaf_journal.proofs.OneKeyFile.{not_both, not_spent}
use Rattle.rsl_chain.specs.Chain.{NeverBoth, OneBreak, OneLog}
use Rattle.rsl_chain.specs.Logs.{IsLogOf, heads_of}
use Rattle.log_appending.specs.Outcomes.{RecordComes}
use Rattle.log_appending.specs.declared.appending.AppendFault.TheVariants as append
use Rattle.log_appending.specs.declared.opening.ReadingFault.TheVariants as reading
use Rattle.log_appending.specs.declared.telling.RecordFault.{RecordFault}
use Rattle.log_appending.specs.declared.telling.RecordFault.TheVariants.{Unread, BreakUntold, Unappended, SinkFailed}

module _ (one : OneLog) (once : OneBreak) (apart : NeverBoth) (file : List ℕ) (was : Repository) where
  pub not_full : (xs ys : List (List ℕ)) → IsLogOf was xs → IsLogOf was ys → length xs < 1000000 → length ys ≡ 1000000 → ⊥
  not_full xs ys is other short full =
      let same : length xs ≡ length ys = ap length (one (heads_of was) (get was.refs log_name) xs ys is other) in
      lt_irrefl 1000000 (subst (λ (n : ℕ). n < 1000000) (same ∙ full) short)

  pub same_record : (a b : Result (Unit {0}) RecordFault) → RecordComes file was a → RecordComes file was b → a ≡ b
  same_record (Ok done) (Ok also) is other = refl
  same_record (Ok done) (Err (Unread reading.KeyFile)) is other = absurd (not_both file other is.secret is.unused.is)
  same_record (Ok done) (Err (Unread (reading.LogBroken found))) is other = absurd (apart (heads_of was) (get was.refs log_name) is.ids _ is.log other.breaks)
  same_record (Ok done) (Err (Unread reading.TooLarge)) is other = absurd (not_full is.ids other.ids is.log other.log is.short other.full)
  same_record (Ok done) (Err (Unappended append.Exhausted)) is other = absurd (not_spent file other.secret is.secret is.leaf other.used_up is.unused)
  same_record (Err (Unread reading.KeyFile)) (Ok done) is other = absurd (not_both file is other.secret other.unused.is)
  same_record (Err (Unread reading.KeyFile)) (Err (Unread reading.KeyFile)) is other = refl
  same_record (Err (Unread reading.KeyFile)) (Err (Unread (reading.LogBroken found))) is other = absurd (not_both file is other.secret other.is)
  same_record (Err (Unread reading.KeyFile)) (Err (Unread reading.TooLarge)) is other = absurd (not_both file is other.secret other.is)
  same_record (Err (Unread reading.KeyFile)) (Err (Unappended append.Exhausted)) is other = absurd (not_both file is other.secret other.used_up.is)
  same_record (Err (Unread (reading.LogBroken id))) (Ok done) is other = absurd (apart (heads_of was) (get was.refs log_name) other.ids _ other.log is.breaks)
  same_record (Err (Unread (reading.LogBroken id))) (Err (Unread reading.KeyFile)) is other = absurd (not_both file other is.secret is.is)
  same_record (Err (Unread (reading.LogBroken id))) (Err (Unread (reading.LogBroken found))) is other = ap (λ (i : List ℕ). Err (Unread (reading.LogBroken i))) (once (heads_of was) (get was.refs log_name) id found is.breaks other.breaks)
  same_record (Err (Unread (reading.LogBroken id))) (Err (Unread reading.TooLarge)) is other = absurd (apart (heads_of was) (get was.refs log_name) other.ids _ other.log is.breaks)
  same_record (Err (Unread (reading.LogBroken id))) (Err (Unappended append.Exhausted)) is other = absurd (apart (heads_of was) (get was.refs log_name) other.ids _ other.log is.breaks)
  same_record (Err (Unread reading.TooLarge)) (Ok done) is other = absurd (not_full other.ids is.ids other.log is.log other.short is.full)
  same_record (Err (Unread reading.TooLarge)) (Err (Unread reading.KeyFile)) is other = absurd (not_both file other is.secret is.is)
  same_record (Err (Unread reading.TooLarge)) (Err (Unread (reading.LogBroken found))) is other = absurd (apart (heads_of was) (get was.refs log_name) is.ids _ is.log other.breaks)
  same_record (Err (Unread reading.TooLarge)) (Err (Unread reading.TooLarge)) is other = refl
  same_record (Err (Unread reading.TooLarge)) (Err (Unappended append.Exhausted)) is other = absurd (not_full other.ids is.ids other.log is.log other.short is.full)
  same_record (Err (Unappended append.Exhausted)) (Ok done) is other = absurd (not_spent file is.secret other.secret other.leaf is.used_up other.unused)
  same_record (Err (Unappended append.Exhausted)) (Err (Unread reading.KeyFile)) is other = absurd (not_both file other is.secret is.used_up.is)
  same_record (Err (Unappended append.Exhausted)) (Err (Unread (reading.LogBroken found))) is other = absurd (apart (heads_of was) (get was.refs log_name) is.ids _ is.log other.breaks)
  same_record (Err (Unappended append.Exhausted)) (Err (Unread reading.TooLarge)) is other = absurd (not_full is.ids other.ids is.log other.log is.short other.full)
  same_record (Err (Unappended append.Exhausted)) (Err (Unappended append.Exhausted)) is other = refl
  same_record (Err (Unread reading.DiskFailed)) b is other = absurd is
  same_record (Err (Unread reading.KeeperFailed)) b is other = absurd is
  same_record (Err (Unread reading.Memory)) b is other = absurd is
  same_record (Err (BreakUntold id)) b is other = absurd is
  same_record (Err (Unappended append.ClockFailed)) b is other = absurd is
  same_record (Err (Unappended append.DiskFailed)) b is other = absurd is
  same_record (Err (Unappended append.CommitFailed)) b is other = absurd is
  same_record (Err (Unappended append.Memory)) b is other = absurd is
  same_record (Err (Unappended append.MemoryAfter)) b is other = absurd is
  same_record (Err SinkFailed) b is other = absurd is
  same_record a (Err (Unread reading.DiskFailed)) is other = absurd other
  same_record a (Err (Unread reading.KeeperFailed)) is other = absurd other
  same_record a (Err (Unread reading.Memory)) is other = absurd other
  same_record a (Err (BreakUntold id)) is other = absurd other
  same_record a (Err (Unappended append.ClockFailed)) is other = absurd other
  same_record a (Err (Unappended append.DiskFailed)) is other = absurd other
  same_record a (Err (Unappended append.CommitFailed)) is other = absurd other
  same_record a (Err (Unappended append.Memory)) is other = absurd other
  same_record a (Err (Unappended append.MemoryAfter)) is other = absurd other
  same_record a (Err SinkFailed) is other = absurd other
