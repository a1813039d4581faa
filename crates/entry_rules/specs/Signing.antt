-- Who signed for an entry: the key that it names, and those that approved the change.
use Rattle.std.specs.Prelude.{◌&&◌, ◌++◌, ◌∷◌, [], ℕ, Bool, List, Option, Some, None, option_and_then}
use Rattle.std.specs.List.{list_any}
use Rattle.std.specs.Str.{bytes_eq}
use Rattle.git_object.specs.Ids.{zeros}
use Rattle.git_object.specs.Repository.{Repository}
use Rattle.lms_keys.specs.Deciding.{is_good}
use Rattle.rsl_chain.specs.declared.entries.Entry.{Entry}
use Rattle.root_metadata.specs.Shapes.{only_if, set_of}
use Rattle.root_metadata.specs.declared.keys.Key.{Key}
use Rattle.tree_paths.specs.States.{Ended, Faulty, Gone, Sound}
use Rattle.approvals.specs.Lookups.{approvers_of}

-- the key has this id, and the entry's signature is good by it over what is signed
abbrev pub is_signed_by : Entry → List ℕ → Key → Bool
is_signed_by entry id key = bytes_eq key.id id && is_good key.public entry.signed entry.signature

abbrev pub signer_named : List Key → Entry → List ℕ → Option (List ℕ)
signer_named keys entry id = only_if (list_any (is_signed_by entry id) keys) id

-- the key that the entry names, where it is one of these and the signature is good by it
abbrev pub signer_among : List Key → Entry → Option (List ℕ)
signer_among keys entry = option_and_then (signer_named keys entry) entry.signer

-- the tree of a target of which this is the walk: zeros where there is nothing, and none where it is broken
abbrev pub tree_in : Ended → Option (List ℕ)
tree_in Gone = Some zeros
tree_in (Faulty id) = None
tree_in (Sound tree ss c) = Some tree

-- those of the keys that approved a change of a reference from a target to a tree, by the attestations
abbrev pub approved_to : Repository → List Key → List ℕ → List ℕ → List ℕ → Option (List ℕ) → List (List ℕ)
approved_to r keys name from attestations None = []
approved_to r keys name from attestations (Some tree) = approvers_of r attestations name from tree keys

abbrev pub approved : Repository → List Key → List ℕ → List ℕ → Option (List ℕ) → Option (List ℕ) → List (List ℕ)
approved r keys name from None tree = []
approved r keys name from (Some attestations) tree = approved_to r keys name from attestations tree

-- a list of what is there
abbrev pub listed : Option (List ℕ) → List (List ℕ)
listed None = []
listed (Some id) = id ∷ []

-- the signer's id and those of the approvers, as a set
abbrev pub joined : Option (List ℕ) → List (List ℕ) → List (List ℕ)
joined signer approvers = set_of (listed signer ++ approvers)
