-- The tree of a key. Its nodes are numbered from the root, which is 1; below node r stand 2 r and
-- 2 r + 1.
use Rattle.std.specs.Prelude.{ℕ, suc, ◌+◌, ◌-◌, ◌*◌, ◌/◌, ◌%◌, ◌^◌, ◌==◌, if◌then◌else◌, nat_lt, List, ◌++◌, take, drop}
use Prim.Native.Nat as Nat
use Rattle.std.specs.Int.{w16, w32, to_be_bytes}
use Rattle.sha2.specs.Sha256.{sha256}
use Rattle.lmots.specs.declared.ots_type.OtsType.{OtsType}
use Rattle.lmots.specs.OneTime as one_time

-- I || u32str(r) || u16str(D_LEAF) || K
abbrev pub leaf_text : List ℕ → ℕ → List ℕ → List ℕ
leaf_text i r key = i ++ to_be_bytes w32 r ++ to_be_bytes w16 0x8282 ++ key

-- the value of a leaf: the hash of these (RFC 8554, section 5.3)
abbrev pub leaf_value : List ℕ → ℕ → List ℕ → List ℕ
leaf_value i r key = sha256 (leaf_text i r key)

-- I || u32str(r) || u16str(D_INTR) || left || right
abbrev pub inner_text : List ℕ → ℕ → List ℕ → List ℕ → List ℕ
inner_text i r left right = i ++ to_be_bytes w32 r ++ to_be_bytes w16 0x8383 ++ left ++ right

-- the value of an inner node: the hash of these (RFC 8554, section 5.3)
abbrev pub inner_value : List ℕ → ℕ → List ℕ → List ℕ → List ℕ
inner_value i r left right = sha256 (inner_text i r left right)

-- T[r] of a leaf of the tree of height h that grows from the seed (RFC 8554, section 5.3)
abbrev pub leaf_of : OtsType → ℕ → List ℕ → List ℕ → ℕ → List ℕ
leaf_of ots h i seed r = leaf_value i r (one_time.public_key ots i (r - 2 ^ h) seed)

-- T[r]: of a leaf where 2 ^ h ≤ r, and else of the two nodes below it. The depth bounds how far
-- it is looked down, and h is enough from node 1 on (RFC 8554, section 5.3).
unfoldable pub node_within : OtsType → ℕ → List ℕ → List ℕ → ℕ → ℕ → List ℕ
node_within ots h i seed Nat.zero r = leaf_of ots h i seed r
node_within ots h i seed (suc depth) r =
    if nat_lt r (2 ^ h)
    then inner_value i r (node_within ots h i seed depth (2 * r))
    (node_within ots h i seed depth (2 * r + 1))
    else leaf_of ots h i seed r

-- T[r]
abbrev pub tree_node : OtsType → ℕ → List ℕ → List ℕ → ℕ → List ℕ
tree_node ots h i seed r = node_within ots h i seed h r

-- the node that stands beside r, below the same node
abbrev pub beside : ℕ → ℕ
beside r = if r % 2 == 0 then r + 1 else r - 1

-- the value of the node above r, whose number is r / 2 (RFC 8554, section 5.4.2, algorithm 6a,
-- step 4)
abbrev pub above : List ℕ → ℕ → List ℕ → List ℕ → List ℕ
above i r value sibling =
    if r % 2 == 0 then inner_value i (r / 2) value sibling else inner_value i (r / 2) sibling value

-- what is hashed for the node above r
abbrev pub above_text : List ℕ → ℕ → List ℕ → List ℕ → List ℕ
above_text i r value sibling =
    if r % 2 == 0 then inner_text i (r / 2) value sibling else inner_text i (r / 2) sibling value

-- the value of the node n levels above r, from the siblings on the way up (RFC 8554, section
-- 5.4.2, algorithm 6a, step 4)
unfoldable pub climbed : List ℕ → ℕ → List ℕ → (ℕ → List ℕ) → ℕ → List ℕ
climbed i r value siblings Nat.zero = value
climbed i r value siblings (suc n) = above i (r / 2 ^ n) (climbed i r value siblings n) (siblings n)

-- path[level], where the path's values stand one after another
abbrev pub sibling_in : List ℕ → ℕ → List ℕ
sibling_in path level = take 32 (drop (32 * level) path)
