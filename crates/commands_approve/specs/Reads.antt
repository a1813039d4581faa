-- The reads of objects that `approve` may cost.
use Rattle.std.specs.Prelude.{◌≤◌, ◌+◌, ℕ, List, None, length}
use Rattle.git_object.specs.Repository.{Repository}
use Rattle.rsl_chain.specs.Entries.{Taken}
use Rattle.tree_paths.specs.Listings.{walk_visits}
use Rattle.tree_paths.specs.Repositories.{readings_of}
use Rattle.rsl_chain.specs.Logs.{IsLogOf}
use Rattle.entry_rules.specs.RealRules.{real_rules}
use Rattle.verify_ref.specs.Logs.{AreEntries}
use Rattle.verify_ref.specs.Reading.{AreBounded, judging_reads}

-- of a target's state: 9, and one for each tree that its walk visits
abbrev pub state_reads : Repository → List ℕ → ℕ
state_reads r target = 9 + walk_visits (readings_of r) target

-- of taking the entries at these ids, where no target of them is broken, and then of so many more
abbrev pub ReadsEntries : Repository → List (List ℕ) → ℕ → ℕ → ℕ → Type 0
ReadsEntries r ids more before after = (entries : List Taken) → AreEntries r ids entries
    → AreBounded (real_rules None) entries → after ≤ before + (judging_reads (real_rules None) entries + more)

-- of finding the repository's log, which reads each entry once, of taking its entries, of a target's state, of the
-- approval
-- (28) and of its place (27)
abbrev pub ReadsFew : Repository → List ℕ → ℕ → ℕ → Type 0
ReadsFew r target before after = (ids : List (List ℕ)) → IsLogOf r ids
    → ReadsEntries r ids (length ids + (state_reads r target + 55)) before after
