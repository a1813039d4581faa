-- Which policies are valid, read aloud: each rule as a reader would say it, without tests and without an order of
-- faults.
use Rattle.std.specs.Prelude.{◌≡◌, ◌≢◌, ◌≤◌, ◌⊎◌, ◌++◌, ◌∷◌, [], ℕ, List, Ok, codes, length, map}
use Rattle.std.specs.List.{AllByRecursion}
use Rattle.git_object.specs.Objects.{Pair}
use Rattle.git_object.specs.Repository.{HasObject, Repository}
use Rattle.git_object.specs.declared.kinds.Kind.TheVariants.{Blob}
use Rattle.git_object.specs.declared.modes.Mode.TheVariants.{Exec, File}
use Rattle.git_object.specs.declared.trees.TreeEntry.{TreeEntry}
use Rattle.tree_paths.specs.Leading.{Among}
use Rattle.tree_paths.specs.Repositories.{readings_of}
use Rattle.tree_paths.specs.States.{state_at, walk_of}
use Rattle.tree_paths.specs.declared.states.State.TheVariants as state
use Rattle.dsse_envelope.specs.Envelopes as envelopes
use Rattle.dsse_envelope.specs.declared.envelope.Envelope.{Envelope}
use Rattle.root_metadata.specs.Persons.{count_in}
use Rattle.root_metadata.specs.Roots as roots
use Rattle.root_metadata.specs.declared.roots.Root.{Root}
use Rattle.rule_files.specs.Files as texts
use Rattle.rule_files.specs.declared.rules.Rule.{Rule}
use Rattle.rule_files.specs.declared.rules.RuleFile.{RuleFile}
use Rattle.approvals.specs.Signers.{env_signers}
use Rattle.rule_delegations.specs.Assembling.{IsFaultless}
use Rattle.policy_epochs.specs.declared.policies.Policy.{Policy}
use Rattle.policy_reading.specs.Metadata.{metadata_entries, rule_files}
use Rattle.policy_reading.specs.Signed.{payload_type}
use Rattle.policy_reading.specs.Validity.{policy_made, sealed_of, with_top}
use Rattle.policy_reading.specs.declared.found_files.FileAt.{FileAt}
use Rattle.policy_reading.specs.declared.signed_files.SignedFile.{SignedFile}
use Rattle.policy_reading.specs.declared.signed_files.SignedRoot.{SignedRoot}

-- ---- each file is read

-- a file, executable or not, of this name without its `.json`
pub record IsFileOf (entries : List TreeEntry) (stem : List ℕ) (entry : TreeEntry) : Type 0 where
  pub there : Among entry entries
  pub mode : (entry.mode ≡ File) ⊎ (entry.mode ≡ Exec)
  pub named : entry.name ≡ stem ++ codes ".json"

-- the object is a blob of at most 1 MiB, which is this envelope, of the policies' type
pub record IsEnvelopeAt (r : Repository) (id : List ℕ) (envelope : Envelope) : Type 0 where
  pub pair : Pair
  pub has : HasObject r id pair
  pub blob : pair.kind ≡ Blob
  pub small : length pair.body ≤ 1048576
  pub read : envelopes.reading pair.body ≡ Ok envelope
  pub typed : envelope.payload_type ≡ payload_type

-- and its payload is this root
pub record IsRootAt (r : Repository) (id : List ℕ) (signed : SignedRoot) : Type 0 where
  pub envelope : IsEnvelopeAt r id signed.envelope
  pub read : roots.reading signed.envelope.payload ≡ Ok signed.root

-- or this rule file, which has the file's name
pub record IsRuleFileAt (r : Repository) (at : FileAt) (signed : SignedFile) : Type 0 where
  pub envelope : IsEnvelopeAt r at.id signed.envelope
  pub read : texts.reading signed.envelope.payload ≡ Ok signed.file
  pub named : signed.file.name ≡ at.stem

abbrev pub AreRead : Repository → List FileAt → List SignedFile → Type 0
AreRead r [] [] = Unit {0}
AreRead r [] (signed ∷ files) = ⊥
AreRead r (at ∷ ats) [] = ⊥
AreRead r (at ∷ ats) (signed ∷ files) = IsRuleFileAt r at signed × AreRead r ats files

-- ---- each is signed by those who must

-- a rule of the name stands in one of the files
pub record IsHolder (files : List RuleFile) (name : List ℕ) (holder : RuleFile) (rule : Rule) : Type 0 where
  pub there : Among holder files
  pub held : Among rule holder.rules
  pub named : rule.name ≡ name

-- as many persons of the root role as it asks for signed the root, with keys of the root
abbrev pub IsRootSigned : SignedRoot → Type 0
IsRootSigned signed = signed.root.root.threshold ≤ count_in signed.root.root.persons
    (env_signers signed.envelope signed.root.keys)

-- the top file is signed as the root's role for it asks, with keys of the root
pub record IsTopSigned (root : Root) (signed : SignedFile) : Type 0 where
  pub is : signed.file.name ≡ codes "targets"
  pub enough : root.targets.threshold ≤ count_in root.targets.persons (env_signers signed.envelope root.keys)

-- and another as the rule of its name asks, with keys of the file that holds this rule
pub record IsBelowSigned (files : List RuleFile) (signed : SignedFile) : Type 0 where
  pub isnt : signed.file.name ≢ codes "targets"
  pub holder : RuleFile
  pub rule : Rule
  pub holds : IsHolder files signed.file.name holder rule
  pub enough : rule.threshold ≤ count_in rule.persons (env_signers signed.envelope holder.keys)

abbrev pub IsFileSigned : Root → List RuleFile → SignedFile → Type 0
IsFileSigned root files signed = IsTopSigned root signed ⊎ IsBelowSigned files signed

-- ---- the policy of a target

-- the state of the target is whole; there is a root, and it and each rule file are read; the root is signed; nothing
-- keeps the
-- rule files from being the rules of a policy; and each of them is signed
pub record IsValid (r : Repository) (target : List ℕ) (policy : Policy) : Type 0 where
  pub tree : List ℕ
  pub paths : ℕ
  pub dirs : ℕ
  pub whole : state_at (walk_of (readings_of r) target) ≡ state.Whole tree paths dirs
  pub root_file : TreeEntry
  pub has_root : IsFileOf (metadata_entries (readings_of r).trees tree) (codes "root") root_file
  pub root : SignedRoot
  pub root_read : IsRootAt r root_file.id root
  pub files : List SignedFile
  pub files_read : AreRead r (rule_files (metadata_entries (readings_of r).trees tree)) files
  pub root_signed : IsRootSigned root
  pub faultless : IsFaultless (with_top files)
  pub files_signed : AllByRecursion (IsFileSigned root.root (with_top files)) files
  pub made : policy_made root (with_top files) (map sealed_of files) ≡ policy
