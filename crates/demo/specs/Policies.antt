-- The policy of a demonstration: who may change what, the two files that say so, and the commit that holds them.
use Rattle.std.specs.Prelude.{◌∷◌, [], ℕ, List, None, codes, false, map, true}
use Rattle.hex.specs.Hex.{encode_lower}
use Rattle.git_object.specs.EntryParts.{entry_of}
use Rattle.git_object.specs.Objects.{Pair, pair_id}
use Rattle.git_object.specs.declared.kinds.Kind.TheVariants as kind
use Rattle.git_object.specs.declared.modes.Mode.TheVariants.{Dir, File}
use Rattle.git_object.specs.declared.trees.TreeEntry.{TreeEntry}
use Rattle.ref_patterns.specs.declared.space.Space.TheVariants as space
use Rattle.root_metadata.specs.Shapes.{set_of}
use Rattle.root_metadata.specs.declared.keys.Key.{Key}
use Rattle.root_metadata.specs.declared.persons.Person.{Person}
use Rattle.root_metadata.specs.declared.roots.Role.{Role}
use Rattle.root_metadata.specs.declared.roots.Root.{Root}
use Rattle.rule_files.specs.declared.rules.Rule.{Rule}
use Rattle.rule_files.specs.declared.rules.RuleFile.{RuleFile}
use Rattle.metadata_writing.specs.Written.{file_text, root_text}
use Rattle.dsse_envelope.specs.Authentication.{pae}
use Rattle.dsse_envelope.specs.Written.{text_of}
use Rattle.dsse_envelope.specs.declared.envelope.Envelope.{Envelope}
use Rattle.dsse_envelope.specs.declared.envelope.Signature.{Signature}
use Rattle.object_making.specs.Texts.{commit_pair}
use Rattle.demo.specs.Keys.{demo_key, key_id, public_bytes, signed_by}
use Rattle.demo.specs.Trees.{tree_pair}

-- ---- who

-- a key as a file lists it
abbrev pub listed_key : ℕ → Key
listed_key k = record { id = key_id k; public = public_bytes k }

-- in schema 1 each id of a key is a person, named by it
abbrev pub person_of : List ℕ → Person
person_of id = record { name = encode_lower id; keyids = id ∷ [] }

-- ---- what

-- key 0 signs the root and the top file
abbrev pub first_role : Role
first_role = record { persons = person_of (key_id 0) ∷ []; threshold = 1 }

abbrev pub demo_root : Root
demo_root = record {
  schema = 1;
  version = 1;
  keys = listed_key 0 ∷ [];
  persons = [];
  root = first_role;
  targets = first_role;
}

-- key 1 alone changes what is below keys/
abbrev pub keys_rule : Rule
keys_rule = record {
  name = codes "keys";
  patterns = record { space = space.File; glob = codes "keys/*" } ∷ [];
  terminating = true;
  persons = person_of (key_id 1) ∷ [];
  threshold = 1;
}

-- each of the three moves the branch
abbrev pub main_rule : Rule
main_rule = record {
  name = codes "main";
  patterns = record { space = space.Git; glob = codes "refs/heads/main" } ∷ [];
  terminating = false;
  persons = map person_of (set_of (key_id 0 ∷ key_id 1 ∷ key_id 2 ∷ []));
  threshold = 1;
}

abbrev pub demo_top : RuleFile
demo_top = record {
  name = codes "targets";
  schema = 1;
  version = 1;
  keys = listed_key 0 ∷ listed_key 1 ∷ listed_key 2 ∷ [];
  persons = [];
  rules = keys_rule ∷ main_rule ∷ [];
}

-- ---- the files

-- the type of what is signed
abbrev pub payload_type : List ℕ
payload_type = codes "application/vnd.gittuf+json"

-- the signature of a payload by a key with a leaf
abbrev pub seal_of : ℕ → ℕ → List ℕ → Signature
seal_of k leaf payload = record {
  keyid = encode_lower (key_id k);
  sig = signed_by (demo_key k) leaf (pae payload_type payload);
}

abbrev pub sealed_with : ℕ → ℕ → List ℕ → Envelope
sealed_with k leaf payload = record {
  payload_type = payload_type;
  payload = payload;
  signatures = seal_of k leaf payload ∷ [];
}

-- a file of the policy, which key 0 signed with a leaf
abbrev pub policy_file : ℕ → List ℕ → Pair
policy_file leaf payload = record { kind = kind.Blob; body = text_of (sealed_with 0 leaf payload) }

unfoldable pub root_file : Pair
root_file = policy_file 0 (root_text demo_root)

unfoldable pub top_file : Pair
top_file = policy_file 1 (file_text demo_top)

-- ---- their trees and the commit

abbrev pub metadata_at : List ℕ → List ℕ → List TreeEntry
metadata_at root top = entry_of File (codes "root.json") root ∷ entry_of File (codes "targets.json") top ∷ []

abbrev pub metadata_entries : List TreeEntry
metadata_entries = metadata_at (pair_id root_file) (pair_id top_file)

abbrev pub policy_entries : List TreeEntry
policy_entries = entry_of Dir (codes "metadata") (pair_id (tree_pair metadata_entries)) ∷ []

abbrev pub policy_commit : Pair
policy_commit = commit_pair (pair_id (tree_pair policy_entries)) None 0 (codes "snapshot\n")

unfoldable pub policy_id : List ℕ
policy_id = pair_id policy_commit

-- the objects of the policy
unfoldable pub policy_objects : List Pair
policy_objects = root_file ∷ top_file ∷ tree_pair metadata_entries ∷ tree_pair policy_entries ∷ policy_commit ∷ []
