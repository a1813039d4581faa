-- The file of global rules in the tree of a policy's target.
use Rattle.std.specs.Prelude.{ℕ, Bool, List, Option, Some, None, Result, Ok, Err, codes, if◌then◌else◌, nat_le}
use Rattle.std.specs.Str.{bytes_eq}
use Rattle.git_object.specs.Repository.{Repository}
use Rattle.dsse_envelope.specs.declared.envelope.Envelope.{Envelope}
use Rattle.root_metadata.specs.Persons.{count_in}
use Rattle.root_metadata.specs.declared.roots.Root.{Root}
use Rattle.tree_paths.specs.Repositories.{readings_of}
use Rattle.tree_paths.specs.States.{PathValue}
use Rattle.tree_paths.specs.Walks.{is_dir}
use Rattle.approvals.specs.Lookups.{entry_in, file_bytes}
use Rattle.approvals.specs.Signers.{env_signers}
use Rattle.policy_reading.specs.Signed.{envelope_in, payload_type}
use Rattle.rule_files.specs.GlobalFiles.{reading}
use Rattle.rule_files.specs.declared.global_faults.GlobalFault.{GlobalFault}
use Rattle.rule_files.specs.declared.global_rules.GlobalFile.{GlobalFile}
use Rattle.global_rules.specs.declared.found_files.FoundFile.{FoundFile}
use Rattle.global_rules.specs.declared.found_files.FoundFile.TheVariants.{Absent, Bad, There}

abbrev pub global_path : List ℕ
global_path = codes "global/rules.json"

abbrev pub is_of_type : Envelope → Bool
is_of_type envelope = bytes_eq envelope.payload_type payload_type

-- as many persons of the root role as it asks for signed, with keys of the root
abbrev pub is_signed : Root → Envelope → Bool
is_signed root envelope = nat_le root.root.threshold (count_in root.root.persons (env_signers envelope root.keys))

-- what a payload, an envelope's text and what stands at the path are

abbrev pub by_payload : Result GlobalFile GlobalFault → FoundFile
by_payload (Ok file) = There file
by_payload (Err fault) = Bad

abbrev pub by_envelope : Root → Option Envelope → FoundFile
by_envelope root None = Bad
by_envelope root (Some envelope) = (if is_signed root envelope then by_payload (reading envelope.payload) else Bad)

abbrev pub by_bytes : Root → Option (List ℕ) → FoundFile
by_bytes root None = Bad
by_bytes root (Some bytes) = by_envelope root (envelope_in bytes)

-- a directory holds no rules, and what is no file of at most 1 MiB is a bad one
abbrev pub by_value : Repository → Root → Option PathValue → FoundFile
by_value r root None = Absent
by_value r root (Some value) = (if is_dir value.0 then Absent else by_bytes root (file_bytes r value))

-- of the policy of this root in the tree of a target
unfoldable pub found_file : Repository → Root → List ℕ → FoundFile
found_file r root target = by_value r root (entry_in (readings_of r) target global_path)
