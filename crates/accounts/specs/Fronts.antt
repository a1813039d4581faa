-- The entries of a log before one of them, judged.
use Rattle.std.specs.Prelude.{◌≡◌, ◌≤◌, ◌+◌, ◌-◌, ℕ, List, Option, length, take}
use Rattle.git_object.specs.Repository.{Repository}
use Rattle.rsl_chain.specs.Entries.{Taken}
use Rattle.rsl_chain.specs.Logs.{IsLogOf}
use Rattle.judging.specs.Logs.{before}
use Rattle.entry_rules.specs.RealRules.{real_rules}
use Rattle.verify_ref.specs.Logs.{AreEntries}
use Rattle.verify_ref.specs.Reading.{AreBounded, judging_reads}
use Rattle.accounts.specs.Judging.{IsJudgedLog, StandsFor}
use Rattle.accounts.specs.declared.judged_log.JudgedLog.{JudgedLog}

-- the entries of the repository's log before a number were judged in the repository, under the first policy of these
-- keys
pub record IsJudgedBefore (anchor : Option (List (List ℕ))) (r : Repository) (number : ℕ) (judged : JudgedLog)
    : Type 0 where
  pub ids : List (List ℕ)
  pub is_log : IsLogOf r ids
  pub log : List Taken
  pub entries : AreEntries r (take (number - 1) ids) log
  pub stands : StandsFor log judged
  pub anchored : judged.engine.rules.anchor ≡ anchor

-- the reads of finding the whole log and of judging these entries, where no target of theirs is broken
abbrev pub ReadsBefore : Option (List (List ℕ)) → Repository → ℕ → ℕ → ℕ → Type 0
ReadsBefore anchor r number before after = (ids : List (List ℕ)) (log : List Taken) → IsLogOf r ids
    → AreEntries r (take (number - 1) ids) log → AreBounded (real_rules anchor) log
    → after ≤ before + (length ids + judging_reads (real_rules anchor) log)

-- they are the entries of the whole log before the number, by which the entry of this number is judged
abbrev pub AsBefore : Type 0
AsBefore = (anchor : Option (List (List ℕ))) (r : Repository) (number : ℕ) (front whole : JudgedLog)
    → (is : IsJudgedBefore anchor r number front) → (all : IsJudgedLog anchor r whole)
    → is.log ≡ before all.log number
