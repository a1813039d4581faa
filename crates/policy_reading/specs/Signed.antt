-- What a file of a policy is read as, with the envelope that it stands in.
use Rattle.std.specs.Prelude.{◌++◌, ℕ, List, [], ◌∷◌, Option, Some, None, Result, Ok, Err, codes, option_and_then}
use Rattle.std.specs.Option.{option_map}
use Rattle.std.specs.Result.{result_ok}
use Rattle.std.specs.Str.{bytes_eq}
use Rattle.git_object.specs.Repository.{Repository}
use Rattle.dsse_envelope.specs.Envelopes as envelopes
use Rattle.dsse_envelope.specs.declared.envelope.Envelope.{Envelope}
use Rattle.root_metadata.specs.Roots as roots
use Rattle.root_metadata.specs.Shapes.{only_if}
use Rattle.root_metadata.specs.declared.roots.Root.{Root}
use Rattle.rule_files.specs.Files as files
use Rattle.rule_files.specs.declared.rules.RuleFile.{RuleFile}
use Rattle.policy_epochs.specs.declared.faults.PolicyFault.{PolicyFault}
use Rattle.policy_epochs.specs.declared.faults.PolicyFault.TheVariants.{BadFile}
use Rattle.tree_paths.specs.Blobs.{blob_at}
use Rattle.policy_reading.specs.declared.found_files.FileAt.{FileAt}
use Rattle.policy_reading.specs.declared.signed_files.SignedFile.{SignedFile}
use Rattle.policy_reading.specs.declared.signed_files.SignedRoot.{SignedRoot}

-- ---- its envelope

abbrev pub payload_type : List ℕ
payload_type = codes "application/vnd.gittuf+json"

abbrev pub of_type : Envelope → Option Envelope
of_type envelope = only_if (bytes_eq envelope.payload_type payload_type) envelope

-- the envelope that a text is, where its payload is a policy's
unfoldable pub envelope_in : List ℕ → Option Envelope
envelope_in text = option_and_then of_type (result_ok (envelopes.reading text))

-- ---- the root and a rule file

abbrev pub with_root : Envelope → Option Root → Option SignedRoot
with_root envelope root = option_map (λ root. record { envelope = envelope; root = root }) root

-- the root that an envelope's payload is
unfoldable pub root_in : Envelope → Option SignedRoot
root_in envelope = with_root envelope (result_ok (roots.reading envelope.payload))

-- a rule file's own name is its stem
abbrev pub of_stem : List ℕ → Envelope → RuleFile → Option SignedFile
of_stem stem envelope file = only_if (bytes_eq file.name stem) (record { envelope = envelope; file = file })

-- the rule file of this stem that an envelope's payload is
unfoldable pub file_in : List ℕ → Envelope → Option SignedFile
file_in stem envelope = option_and_then (of_stem stem envelope) (result_ok (files.reading envelope.payload))

abbrev pub signed_root : List ℕ → Option SignedRoot
signed_root text = option_and_then root_in (envelope_in text)

abbrev pub signed_file : List ℕ → List ℕ → Option SignedFile
signed_file stem text = option_and_then (file_in stem) (envelope_in text)

-- ---- those of a repository

-- the root at an id: None where the object is no such blob, or is refused
abbrev pub root_at : Repository → List ℕ → Option SignedRoot
root_at r id = option_and_then signed_root (blob_at r id)

abbrev pub rule_file_at : Repository → FileAt → Option SignedFile
rule_file_at r at = option_and_then (signed_file at.stem) (blob_at r at.id)

abbrev pub put_first : List ℕ → Option SignedFile → Result (List SignedFile) PolicyFault
    → Result (List SignedFile) PolicyFault
put_first stem None rest = Err (BadFile stem)
put_first stem (Some file) (Ok files) = Ok (file ∷ files)
put_first stem (Some file) (Err fault) = Err fault

-- each of them, or the first that is bad
abbrev pub read_files : Repository → List FileAt → Result (List SignedFile) PolicyFault
read_files r [] = Ok []
read_files r (at ∷ ats) = put_first at.stem (rule_file_at r at) (read_files r ats)

-- what was read, before the meaning of the rest
abbrev pub after : List SignedFile → Result (List SignedFile) PolicyFault → Result (List SignedFile) PolicyFault
after front (Ok rest) = Ok (front ++ rest)
after front (Err fault) = Err fault
