-- The verdict on a reference of a repository.
use Rattle.std.specs.Prelude.{ℕ, List, Option, Result, Ok, Err}
use Rattle.git_object.specs.Repository.{Repository, value_of}
use Rattle.rsl_chain.specs.Entries.{Taken}
use Rattle.judging.specs.Verdicts.{IsJudged}
use Rattle.judging.specs.declared.verdicts.Verdict.{Verdict}
use Rattle.rsl_chain.specs.Logs.{IsBreakOf, IsLogOf}
use Rattle.rsl_chain.specs.declared.log_faults.LogFault.{LogFault}
use Rattle.rsl_chain.specs.declared.log_faults.LogFault.TheVariants.{Broken, Failed, Memory}
use Rattle.entry_rules.specs.declared.faults.Fault.{Fault}
use Rattle.entry_rules.specs.RealRules.{real_rules}
use Rattle.verify_ref.specs.Logs.{AreEntries}

-- the repository has a log, and by its entries, each judged in the repository, this is the verdict on the reference at
-- the
-- value that it has
pub record IsVerdict (r : Repository) (name : List ℕ) (anchor : Option (List (List ℕ))) (verdict : Verdict Fault) : Type
    0 where
  pub ids : List (List ℕ)
  pub is_log : IsLogOf r ids
  pub log : List Taken
  pub entries : AreEntries r ids log
  pub judged : IsJudged (real_rules anchor) log name (value_of r name) verdict

-- the log breaks at this id, or want of memory or a fault of the store kept the verdict away
abbrev pub IsRefusal : Repository → LogFault → Type 0
IsRefusal r (Broken id) = IsBreakOf r id
IsRefusal r Failed = Unit {0}
IsRefusal r Memory = Unit {0}

-- the verdict, or where the log breaks
abbrev pub Answers : Repository → List ℕ → Option (List (List ℕ)) → Result (Verdict Fault) LogFault → Type 0
Answers r name anchor (Ok verdict) = IsVerdict r name anchor verdict
Answers r name anchor (Err fault) = IsRefusal r fault
