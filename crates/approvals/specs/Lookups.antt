-- The approval for a reference, a target and a tree among the attestations, and who signed it.
use Rattle.std.specs.Prelude.{ℕ, [], Bool, true, false, List, Option, Some, None, option_and_then, if◌then◌else◌}
use Rattle.std.specs.Result.{result_ok}
use Rattle.git_object.specs.Names.{components}
use Rattle.git_object.specs.Repository.{Repository}
use Rattle.git_object.specs.declared.modes.Mode.{Mode}
use Rattle.git_object.specs.declared.modes.Mode.TheVariants.{Dir, Exec, File, Link, Module}
use Rattle.dsse_envelope.specs.Envelopes.{reading}
use Rattle.dsse_envelope.specs.declared.envelope.Envelope.{Envelope}
use Rattle.root_metadata.specs.Shapes.{only_if}
use Rattle.root_metadata.specs.declared.keys.Key.{Key}
use Rattle.tree_paths.specs.Blobs.{blob_at}
use Rattle.tree_paths.specs.Lookups.{entry_at}
use Rattle.tree_paths.specs.Readings.{Readings}
use Rattle.tree_paths.specs.Repositories.{readings_of}
use Rattle.tree_paths.specs.States.{PathValue, root_of}
use Rattle.tree_paths.specs.declared.heads.Peeled.{Peeled}
use Rattle.tree_paths.specs.declared.heads.Peeled.TheVariants.{At, Bad, Nothing}
use Rattle.approvals.specs.Signers.{env_signers}
use Rattle.approvals.specs.Approvals.{approval_path, is_approval}

-- the tree of a target
abbrev pub tree_of : Peeled → Option (List ℕ)
tree_of Nothing = None
tree_of (Bad id) = None
tree_of (At commit tree) = Some tree

abbrev pub is_file : Mode → Bool
is_file File = true
is_file Exec = true
is_file Dir = false
is_file Link = false
is_file Module = false

-- the bytes of a file, executable or not
abbrev pub file_bytes : Repository → PathValue → Option (List ℕ)
file_bytes r value = (if is_file value.0 then blob_at r value.1 else None)

-- the mode and the id at a path of the tree of a target
abbrev pub entry_in : Readings → List ℕ → List ℕ → Option PathValue
entry_in readings target path = option_and_then (entry_at readings.trees (components path))
    (tree_of (root_of readings.heads target))

-- the bytes of the file at a path of the tree of a target
unfoldable pub file_in : Repository → List ℕ → List ℕ → Option (List ℕ)
file_in r target path = option_and_then (file_bytes r) (entry_in (readings_of r) target path)

-- the approval that bytes are
unfoldable pub approval_of : List ℕ → List ℕ → List ℕ → List ℕ → Option Envelope
approval_of name from tree bytes = option_and_then (λ envelope. only_if (is_approval name from tree envelope) envelope)
    (result_ok (reading bytes))

-- the approval among the attestations of a target, which lets a reference go from a target to a tree
unfoldable pub approval_at : Repository → List ℕ → List ℕ → List ℕ → List ℕ → Option Envelope
approval_at r attestations name from tree =
    option_and_then (approval_of name from tree) (file_in r attestations (approval_path name from tree))

abbrev pub signers_of : List Key → Option Envelope → List (List ℕ)
signers_of keys None = []
signers_of keys (Some envelope) = env_signers envelope keys

-- the ids of those keys that signed it, as a set; none where there is no approval
abbrev pub approvers_of : Repository → List ℕ → List ℕ → List ℕ → List ℕ → List Key → List (List ℕ)
approvers_of r attestations name from tree keys = signers_of keys (approval_at r attestations name from tree)
