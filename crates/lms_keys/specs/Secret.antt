-- A secret key: what it is drawn from, its public part, and what it signs.
use Rattle.std.specs.Prelude.{◌≡◌, ℕ, ◌+◌, ◌*◌, ◌/◌, ◌^◌, ◌<◌, ◌≤◌, List, [], ◌++◌, length, slice_index_or}
use Rattle.std.specs.Int.{w32, to_be_bytes}
use Rattle.lmots.specs.declared.ots_type.OtsType.{OtsType}
use Rattle.lmots.specs.OneTime as one_time
use Rattle.lmots.specs.Chain.{joined}
use Rattle.lms_keys.specs.declared.lms_type.LmsType.{LmsType}
use Rattle.lms_keys.specs.declared.public_key.PublicKey.{PublicKey}
use Rattle.lms_keys.specs.LmsType.{code, height}
use Rattle.lms_keys.specs.Tree.{tree_node, beside}

-- the types, the identifier and the seed of a key
pub record Secret : Type 0 where
  pub lms : LmsType
  pub ots : OtsType
  pub i : List ℕ
  pub seed : List ℕ

-- a table that has T[r] at r, from the node `first` to the last leaf
pub record AreNodesFrom
    (lms : LmsType) (ots : OtsType) (i seed : List ℕ) (nodes : List (List ℕ)) (first : ℕ)
    : Type 0 where
  pub long : length nodes ≡ 2 * 2 ^ height lms
  pub each : (r : ℕ) → first ≤ r → r < 2 * 2 ^ height lms
      → slice_index_or nodes r [] ≡ tree_node ots (height lms) i seed r

-- what a key keeps: an identifier of 16 bytes, and all nodes of its tree
pub record HasTree (lms : LmsType) (ots : OtsType) (i seed : List ℕ) (nodes : List (List ℕ)) : Type 0 where
  pub identifier : length i ≡ 16
  pub tree : AreNodesFrom lms ots i seed nodes 1

-- path[level] of a leaf node, as a table of nodes has it
abbrev pub path_in_table : List (List ℕ) → ℕ → ℕ → List ℕ
path_in_table nodes leaf level = slice_index_or nodes (beside (leaf / 2 ^ level)) []

-- T[r] of a key's tree
abbrev pub node_of : Secret → ℕ → List ℕ
node_of secret r = tree_node secret.ots (height secret.lms) secret.i secret.seed r

-- the public part, whose root is T[1] (RFC 8554, section 5.3)
abbrev pub public_key_of : Secret → PublicKey
public_key_of secret =
    record { lms = secret.lms; ots = secret.ots; i = secret.i; root = node_of secret 1 }

-- path[level] of leaf q: the node beside the one that stands as many levels above the leaf (RFC
-- 8554, section 5.4.1)
abbrev pub path_of : Secret → ℕ → ℕ → List ℕ
path_of secret q level = node_of secret (beside ((2 ^ height secret.lms + q) / 2 ^ level))

-- u32str(q) || the one-time signature || u32str(type) || path[0] || … || path[h-1] (RFC 8554,
-- section 5.4.1)
abbrev pub signature : Secret → ℕ → List ℕ → List ℕ
signature secret q message =
    to_be_bytes w32 q ++ one_time.signature secret.ots secret.i q secret.seed message
    ++ to_be_bytes w32 (code secret.lms) ++ joined (path_of secret q) (height secret.lms)
