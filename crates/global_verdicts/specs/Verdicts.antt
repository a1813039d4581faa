-- The verdict on a reference by global rules.
use Rattle.std.specs.Prelude.{◌≡◌, ◌<◌, ◌≤◌, ℕ, true, false, List, length, Option, Some, None, Result, Ok, Err}
use Rattle.std.specs.List.{filter}
use Rattle.git_object.specs.Repository.{Repository}
use Rattle.rsl_chain.specs.Entries.{Taken, is_of}
use Rattle.rsl_chain.specs.Logs.{IsLogOf}
use Rattle.rsl_chain.specs.declared.log_faults.LogFault.{LogFault}
use Rattle.judging.specs.Logs.{before, entry_at, skipped}
use Rattle.judging.specs.Rules.{Rules}
use Rattle.policy_epochs.specs.declared.policies.Policy.{Policy}
use Rattle.entry_rules.specs.RealRules.{real_rules}
use Rattle.entry_rules.specs.declared.faults.Fault.{Fault}
use Rattle.verify_ref.specs.Logs.{AreEntries}
use Rattle.verify_ref.specs.Verdicts.{IsRefusal}
use Rattle.global_rules.specs.declared.whys.GlobalWhy.{GlobalWhy}
use Rattle.global_verdicts.specs.Rows.{IsWhyOf}
use Rattle.global_verdicts.specs.declared.verdicts.GlobalVerdict.{GlobalVerdict}
use Rattle.global_verdicts.specs.declared.verdicts.GlobalVerdict.TheVariants.{Kept, Violation}

module _ (rules : Rules Policy Fault) (log : List Taken) (name : List ℕ) where
  -- the entry of the number is the reference's, and no later one skips it
  pub record Counts (number : ℕ) (t : Taken) : Type 0 where
    pub some : 0 < number
    pub there : entry_at log number ≡ Some t
    pub own : is_of t.entry.body name ≡ true
    pub unskipped : skipped rules log number ≡ false

  -- and breaks a global rule of the policy in force at its number
  pub record Breaks (number : ℕ) (why : GlobalWhy) : Type 0 where
    pub t : Taken
    pub counts : Counts number t
    pub breaks : IsWhyOf rules name (before log number) t (Some why)

  -- or breaks none
  abbrev pub Keeps : ℕ → Type 0
  Keeps number = (t : Taken) → Counts number t → IsWhyOf rules name (before log number) t None

  -- why it does, where it does
  abbrev pub IsWhyAt : ℕ → Option GlobalWhy → Type 0
  IsWhyAt number None = Keeps number
  IsWhyAt number (Some why) = Breaks number why

  -- none of the first so many entries breaks one
  abbrev pub KeepFirst : ℕ → Type 0
  KeepFirst count = (number : ℕ) → number ≤ count → Keeps number

  -- the first that breaks one; or none does, and the reference has so many entries
  abbrev pub IsGlobalVerdict : GlobalVerdict → Type 0
  IsGlobalVerdict (Violation number why) = Breaks number why × ((other : ℕ) → other < number → Keeps other)
  IsGlobalVerdict (Kept count) = ((number : ℕ) → Keeps number) × (count ≡ length
      (filter (λ t. is_of t.entry.body name) log))

-- the repository has a log, and by its entries, each judged in the repository, this is the verdict on the reference
pub record IsGlobal (r : Repository) (name : List ℕ) (anchor : Option (List (List ℕ)))
    (verdict : GlobalVerdict) : Type 0 where
  pub ids : List (List ℕ)
  pub is_log : IsLogOf r ids
  pub log : List Taken
  pub entries : AreEntries r ids log
  pub judged : IsGlobalVerdict (real_rules anchor) log name verdict

-- the verdict, or where the log breaks
abbrev pub GlobalAnswers : Repository → List ℕ → Option (List (List ℕ)) → Result GlobalVerdict LogFault → Type 0
GlobalAnswers r name anchor (Ok verdict) = IsGlobal r name anchor verdict
GlobalAnswers r name anchor (Err fault) = IsRefusal r fault
