-- The reads of objects that taking an entry may cost, and a whole log.
use Rattle.std.specs.Prelude.{◌≡◌, ◌≤◌, ◌+◌, ◌++◌, ◌∷◌, [], ℕ, List, length, Option, true, if◌then◌else◌}
use Rattle.std.specs.Str.{bytes_eq}
use Rattle.git_object.specs.Repository.{Repository}
use Rattle.rsl_chain.specs.Entries.{Taken}
use Rattle.git_object.specs.References.{policy_name}
use Rattle.rsl_chain.specs.declared.entries.EntryBody.{EntryBody}
use Rattle.rsl_chain.specs.declared.entries.EntryBody.TheVariants.{Reference, Annotation}
use Rattle.tree_paths.specs.Listings.{walk_visits}
use Rattle.tree_paths.specs.Readings.{Readings}
use Rattle.tree_paths.specs.Repositories.{readings_of}
use Rattle.tree_paths.specs.States.{dirs_at, state_at, walk_of}
use Rattle.tree_paths.specs.declared.states.State.{State}
use Rattle.tree_paths.specs.declared.states.State.TheVariants as state
use Rattle.judging.specs.Logs.{from}
use Rattle.judging.specs.Reads.{is_bounded, may_rescue, reads_of}
use Rattle.judging.specs.Rules.{Rules}
use Rattle.policy_epochs.specs.declared.policies.Policy.{Policy}
use Rattle.policy_reading.specs.Metadata.{metadata_entries, rule_files}
use Rattle.entry_rules.specs.declared.faults.Fault.{Fault}
use Rattle.entry_rules.specs.RealRules.{real_rules}
use Rattle.rsl_chain.specs.Logs.{IsLogOf}
use Rattle.verify_ref.specs.Logs.{AreEntries}

-- of learning the trees where the reference stands: 9, and one for each tree that its walk visits, and nothing where
-- the entry
-- may rescue others
abbrev pub learning_reads : Rules Policy Fault → Repository → List Taken → EntryBody → ℕ
learning_reads rules r earlier (Reference name target) =
    (if may_rescue rules earlier name then 0 else 9 + walk_visits (readings_of r) (from rules earlier name))
learning_reads rules r earlier (Annotation ids skip message) = 0

-- and of judging it then
abbrev pub extending_reads : Rules Policy Fault → List Taken → Taken → ℕ
extending_reads rules earlier t = learning_reads rules t.repository earlier t.entry.body + reads_of rules earlier t

-- how many trees the state of a target has; where there is nothing it has none
abbrev pub dirs_of : Repository → List ℕ → ℕ
dirs_of r target = dirs_at (walk_of (readings_of r) target)

-- how many rule files below the top one stand in a state
abbrev pub rule_files_in : Readings → State → ℕ
rule_files_in readings state.Absent = 0
rule_files_in readings (state.Broken id) = 0
rule_files_in readings (state.Whole tree paths dirs) = length (rule_files (metadata_entries readings.trees tree))

-- and in the target of an entry for the policy
abbrev pub policy_files_of : Repository → List ℕ → List ℕ → ℕ
policy_files_of r name target =
    (if bytes_eq name policy_name then rule_files_in (readings_of r) (state_at (walk_of (readings_of r) target)) else 0)

-- the trees of where the reference stood and of the entry's target
abbrev pub both_dirs : Rules Policy Fault → List Taken → Taken → List ℕ → List ℕ → ℕ
both_dirs rules earlier t name target = dirs_of t.repository (from rules earlier name) + dirs_of t.repository target

-- ---- a whole log

-- of finding these entries behind earlier ones by one read each, and taking them
abbrev pub reads_behind : Rules Policy Fault → List Taken → List Taken → ℕ
reads_behind rules earlier [] = 0
reads_behind rules earlier (t ∷ later) = (1 + extending_reads rules earlier t) + reads_behind rules (earlier ++ t ∷ [])
    later

abbrev pub judging_reads : Rules Policy Fault → List Taken → ℕ
judging_reads rules log = reads_behind rules [] log

-- the reads for what each of them records are bounded
abbrev pub AreBounded : Rules Policy Fault → List Taken → Type 0
AreBounded rules log = (earlier later : List Taken) (t : Taken) → log ≡ earlier ++ t ∷ later
    → is_bounded rules earlier t ≡ true

-- of finding the repository's log, which reads each entry once, and of judging it, where no target of its entries is
-- broken
abbrev pub ReadsVerdict : Option (List (List ℕ)) → Repository → ℕ → ℕ → Type 0
ReadsVerdict anchor r before after = (ids : List (List ℕ)) (log : List Taken) → IsLogOf r ids → AreEntries r ids log
    → AreBounded (real_rules anchor) log → after ≤ before + (length ids + judging_reads (real_rules anchor) log)
