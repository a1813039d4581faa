-- Whether the files of a policy are signed by those who must, and what is made of them.
use Rattle.std.specs.Prelude.{◌++◌, ℕ, Bool, List, [], ◌∷◌, Option, Some, None, Result, Ok, Err, codes, is_some, map}
use Rattle.std.specs.Prelude.{nat_le, not, if◌then◌else◌}
use Rattle.std.specs.List.{find, flat_map}
use Rattle.std.specs.Option.{option_map}
use Rattle.std.specs.Str.{bytes_eq}
use Rattle.approvals.specs.Signers.{env_signers}
use Rattle.root_metadata.specs.Judged.{or_next}
use Rattle.root_metadata.specs.Persons.{count_in}
use Rattle.root_metadata.specs.Shapes.{only_if}
use Rattle.root_metadata.specs.declared.keys.Key.{Key}
use Rattle.root_metadata.specs.declared.persons.Person.{Person}
use Rattle.root_metadata.specs.declared.roots.Root.{Root}
use Rattle.rule_files.specs.declared.rules.Rule.{Rule}
use Rattle.rule_files.specs.declared.rules.RuleFile.{RuleFile}
use Rattle.rule_delegations.specs.declared.assembling.AssembleFault.{AssembleFault}
use Rattle.policy_epochs.specs.declared.faults.PolicyFault.{PolicyFault}
use Rattle.policy_epochs.specs.declared.faults.PolicyFault.TheVariants.{FileThreshold, Forest, RootThreshold}
use Rattle.policy_epochs.specs.declared.policies.Policy.{Policy}
use Rattle.policy_epochs.specs.declared.policies.PolicyFile.{PolicyFile}
use Rattle.policy_reading.specs.Deciding.{first_fault}
use Rattle.policy_reading.specs.declared.signed_files.Sealed.{Sealed}
use Rattle.policy_reading.specs.declared.signed_files.SignedFile.{SignedFile}
use Rattle.policy_reading.specs.declared.signed_files.SignedRoot.{SignedRoot}

-- ---- the root

-- the persons of the root role who signed the root, with keys of the root, are as many as it asks for
unfoldable pub root_fault : SignedRoot → Option PolicyFault
root_fault signed =
    let got = count_in signed.root.root.persons (env_signers signed.envelope signed.root.keys) in
    only_if (not (nat_le signed.root.root.threshold got)) (RootThreshold got signed.root.root.threshold)

-- ---- the forest of rule files

-- a top file without rules
abbrev pub empty_top : RuleFile
empty_top = record { name = codes "targets"; schema = 1; version = 1; keys = []; persons = []; rules = [] }

abbrev pub is_top : List ℕ → Bool
is_top name = bytes_eq name (codes "targets")

-- what stands in for the top file, where it is not there but other files are, which then hang on no chain
abbrev pub missing_top : List SignedFile → List RuleFile
missing_top [] = []
missing_top (file ∷ files) = (if is_top file.file.name then [] else empty_top ∷ [])

abbrev pub with_top : List SignedFile → List RuleFile
with_top files = missing_top files ++ map (λ signed. signed.file) files

abbrev pub assembled_by : List RuleFile → Option AssembleFault → Result (List RuleFile) PolicyFault
assembled_by files None = Ok files
assembled_by files (Some why) = Err (Forest why)

unfoldable pub assembled : List RuleFile → Result (List RuleFile) PolicyFault
assembled files = assembled_by files (first_fault files)

-- ---- the rule files' signatures

-- what is kept of a rule file and its envelope
abbrev pub sealed_of : SignedFile → Sealed
sealed_of signed = record { name = signed.file.name; version = signed.file.version; envelope = signed.envelope }

-- the persons among the signers by these keys are as many as are asked for
unfoldable pub signing_fault : Sealed → List Key → List Person → ℕ → Option PolicyFault
signing_fault sealed keys persons threshold =
    let got = count_in persons (env_signers sealed.envelope keys) in
    only_if (not (nat_le threshold got)) (FileThreshold sealed.name got threshold)

-- the first rule of the name in a file, and the first file that holds one; in a forest there is one such rule at most
abbrev pub rule_named : List ℕ → RuleFile → Option Rule
rule_named name file = find (λ rule. bytes_eq rule.name name) file.rules

abbrev pub holds : List ℕ → RuleFile → Bool
holds name file = is_some (rule_named name file)

abbrev pub holder_of : List RuleFile → List ℕ → Option RuleFile
holder_of files name = find (holds name) files

-- a file that is named after no rule would be signed by nobody who may; a forest has none but the top file
abbrev pub no_rule : Sealed → Option PolicyFault
no_rule sealed = Some (FileThreshold sealed.name 0 1)

abbrev pub by_rule : Sealed → RuleFile → Option Rule → Option PolicyFault
by_rule sealed holder None = no_rule sealed
by_rule sealed holder (Some rule) = signing_fault sealed holder.keys rule.persons rule.threshold

abbrev pub by_holder : Sealed → Option RuleFile → Option PolicyFault
by_holder sealed None = no_rule sealed
by_holder sealed (Some holder) = by_rule sealed holder (rule_named sealed.name holder)

-- the top file is signed as the root's role for it asks, with keys of the root, and any other as the rule of its name
-- asks,
-- with keys of the file that holds this rule
unfoldable pub file_fault : Root → List RuleFile → Sealed → Option PolicyFault
file_fault root files sealed =
    (if is_top sealed.name then signing_fault sealed root.keys root.targets.persons root.targets.threshold
    else by_holder sealed (holder_of files sealed.name))

-- the first of the files that is signed by too few
abbrev pub files_fault : Root → List RuleFile → List Sealed → Option PolicyFault
files_fault root files [] = None
files_fault root files (sealed ∷ more) = or_next (file_fault root files sealed) (files_fault root files more)

-- ---- the policy

-- the name of the file that holds the rule of a file's name; the top file has none
unfoldable pub holder_name : List RuleFile → List ℕ → Option (List ℕ)
holder_name files name = (if is_top name then None else option_map (λ holder. holder.name) (holder_of files name))

abbrev pub policy_file : List RuleFile → Sealed → PolicyFile
policy_file files sealed = record {
  name = sealed.name;
  payload = sealed.envelope.payload;
  version = sealed.version;
  holder = holder_name files sealed.name;
}

-- the keys of the root, and those of each file in turn
abbrev pub all_keys : Root → List RuleFile → List Key
all_keys root files = root.keys ++ flat_map (λ file. file.keys) files

abbrev pub policy_made : SignedRoot → List RuleFile → List Sealed → Policy
policy_made signed files sealed = record {
  root = signed.root;
  rules = files;
  keys = all_keys signed.root files;
  envelope = signed.envelope;
  files = map (policy_file files) sealed;
}

-- ---- all of them

abbrev pub by_files : SignedRoot → List RuleFile → List Sealed → Option PolicyFault → Result Policy PolicyFault
by_files signed files sealed None = Ok (policy_made signed files sealed)
by_files signed files sealed (Some fault) = Err fault

abbrev pub by_forest : SignedRoot → List Sealed → Result (List RuleFile) PolicyFault → Result Policy PolicyFault
by_forest signed sealed (Ok files) = by_files signed files sealed (files_fault signed.root files sealed)
by_forest signed sealed (Err fault) = Err fault

abbrev pub by_root : SignedRoot → List SignedFile → Option PolicyFault → Result Policy PolicyFault
by_root signed files None = by_forest signed (map sealed_of files) (assembled (with_top files))
by_root signed files (Some fault) = Err fault

-- the root's signatures, then the forest, then the rule files' signatures
unfoldable pub judged : SignedRoot → List SignedFile → Result Policy PolicyFault
judged signed files = by_root signed files (root_fault signed)
