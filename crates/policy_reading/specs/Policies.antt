-- The policy of a target: valid, or the first fault of what stands there.
use Rattle.std.specs.Prelude.{◌+◌, ℕ, List, Option, Some, None, Result, Ok, Err, codes, length}
use Rattle.std.specs.List.{find}
use Rattle.git_object.specs.Repository.{Repository}
use Rattle.git_object.specs.declared.trees.TreeEntry.{TreeEntry}
use Rattle.tree_paths.specs.Listings.{walk_visits}
use Rattle.tree_paths.specs.Readings.{Readings}
use Rattle.tree_paths.specs.States.{state_at, walk_of}
use Rattle.tree_paths.specs.declared.states.State.{State}
use Rattle.tree_paths.specs.declared.states.State.TheVariants as state
use Rattle.policy_epochs.specs.declared.faults.PolicyFault.{PolicyFault}
use Rattle.policy_epochs.specs.declared.faults.PolicyFault.TheVariants.{BadFile, NoRoot, Unreadable}
use Rattle.policy_epochs.specs.declared.policies.Policy.{Policy}
use Rattle.tree_paths.specs.Repositories.{readings_of}
use Rattle.policy_reading.specs.Metadata.{is_called, metadata_entries, rule_files}
use Rattle.policy_reading.specs.Signed.{read_files, root_at}
use Rattle.policy_reading.specs.Validity.{judged}
use Rattle.policy_reading.specs.declared.found_files.FileAt.{FileAt}
use Rattle.policy_reading.specs.declared.signed_files.SignedFile.{SignedFile}
use Rattle.policy_reading.specs.declared.signed_files.SignedRoot.{SignedRoot}

abbrev pub by_rule_files : SignedRoot → Result (List SignedFile) PolicyFault → Result Policy PolicyFault
by_rule_files signed (Ok files) = judged signed files
by_rule_files signed (Err fault) = Err fault

abbrev pub by_root_file : Repository → List FileAt → Option SignedRoot → Result Policy PolicyFault
by_root_file r ats None = Err (BadFile (codes "root"))
by_root_file r ats (Some signed) = by_rule_files signed (read_files r ats)

abbrev pub by_root_entry : Repository → List FileAt → Option TreeEntry → Result Policy PolicyFault
by_root_entry r ats None = Err NoRoot
by_root_entry r ats (Some entry) = by_root_file r ats (root_at r entry.id)

-- the policy of the entries of a directory `metadata`: the root is there and good, then each rule file is good, then
-- all is valid
unfoldable pub policy_in : Repository → List TreeEntry → Result Policy PolicyFault
policy_in r entries = by_root_entry r (rule_files entries) (find (is_called (codes "root")) entries)

-- the policy of a target in this state, which is to be whole
abbrev pub policy_at : Repository → Readings → State → Result Policy PolicyFault
policy_at r readings state.Absent = Err Unreadable
policy_at r readings (state.Broken id) = Err Unreadable
policy_at r readings (state.Whole tree paths dirs) = policy_in r (metadata_entries readings.trees tree)

-- the policy of a target in a repository
unfoldable pub policy_of : Repository → List ℕ → Result Policy PolicyFault
policy_of r target = policy_at r (readings_of r) (state_at (walk_of (readings_of r) target))

-- ---- reads

-- the reads of files of a target in this state: the root's tree, the directory, the root, each rule file
abbrev pub file_reads : Readings → State → ℕ
file_reads readings state.Absent = 0
file_reads readings (state.Broken id) = 0
file_reads readings (state.Whole tree paths dirs) = 3 + length (rule_files (metadata_entries readings.trees tree))

-- the most reads that the policy of a target takes: nine of peeling, one for each tree of the walk, and those of its
-- files
unfoldable pub policy_reads : Repository → List ℕ → ℕ
policy_reads r target = 9 + walk_visits (readings_of r) target + file_reads (readings_of r)
    (state_at (walk_of (readings_of r) target))
