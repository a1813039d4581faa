-- The reads of objects that telling a verdict, and what mends a violation, may cost.
use Rattle.std.specs.Prelude.{◌≤◌, ◌+◌, ℕ, List, Option, unwrap_or}
use Rattle.git_object.specs.Ids.{zeros}
use Rattle.git_object.specs.Repository.{Repository}
use Rattle.rsl_chain.specs.Entries.{Taken}
use Rattle.tree_paths.specs.Listings.{walk_visits}
use Rattle.tree_paths.specs.Repositories.{readings_of}
use Rattle.judging.specs.declared.verdicts.Verdict.{Verdict}
use Rattle.judging.specs.declared.verdicts.Verdict.TheVariants.{Accepted, TipDiffers, Violation}
use Rattle.judged_logs.specs.Mends.{back_to}
use Rattle.entry_rules.specs.RealRules.{real_rules}
use Rattle.entry_rules.specs.declared.faults.Fault.{Fault}
use Rattle.verify_ref.specs.Verdicts.{IsVerdict}

-- of a violation of a reference at a number: 9, and one for each tree that the walk of the target visits that is gone
-- back to
abbrev pub mend_reads : Option (List (List ℕ)) → List Taken → Repository → List ℕ → ℕ → ℕ
mend_reads anchor log r name number =
    9 + walk_visits (readings_of r) (unwrap_or (back_to (real_rules anchor) log name number) zeros)

-- of telling a verdict on a reference
abbrev pub told_reads : Option (List (List ℕ)) → List Taken → Repository → List ℕ → Verdict Fault → ℕ
told_reads anchor log r name (Accepted count) = 0
told_reads anchor log r name (TipDiffers kept recorded) = 0
told_reads anchor log r name (Violation number fault) = mend_reads anchor log r name number

-- the verdict of the repository on a reference was told with at most those reads
pub record ReadsToTell (anchor : Option (List (List ℕ))) (r : Repository) (log : List Taken) (name : List ℕ)
    (before after : ℕ) : Type 0 where
  pub verdict : Verdict Fault
  pub is : IsVerdict r name anchor verdict
  pub most : after ≤ before + told_reads anchor log r name verdict
