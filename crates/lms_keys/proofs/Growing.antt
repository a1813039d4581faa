-- The tree's equations: T[r] of a leaf, and of the two nodes below r.
use Rattle.std.proofs.Common.{◌≡◌, ℕ, suc, ◌+◌, ◌*◌, ◌^◌, ◌<◌, ◌≤◌, List, length, inl, inr, sym, ◌∙◌, ap, refl, arith}
use Prim.Native.Nat as Nat
use Rattle.std.proofs.lemmas.Bool.{cases_lt, lt-ltb, le-ltb}
use Rattle.std.proofs.Math.Nat.{pow-suc, mul-le-mul_right}
use Rattle.sha2.proofs.Facts256.{length-sha256}
use Rattle.lmots.specs.declared.ots_type.OtsType.{OtsType}
use Rattle.lms_keys.specs.Tree.{inner_value, leaf_of, node_within, tree_node}

within-leaf : (ots : OtsType) (h : ℕ) (i seed : List ℕ) (depth r : ℕ) → 2 ^ h ≤ r → node_within ots h i seed depth r ≡ leaf_of ots h i seed r
unfolding node_within
within-leaf ots h i seed Nat.zero r leaf = refl
within-leaf ots h i seed (suc depth) r leaf = rw (le-ltb r (2 ^ h) leaf) refl

within-inner : (ots : OtsType) (h : ℕ) (i seed : List ℕ) (depth r : ℕ) → r < 2 ^ h
    → node_within ots h i seed (suc depth) r
    ≡ inner_value i r (node_within ots h i seed depth (2 * r)) (node_within ots h i seed depth (2 * r + 1))
unfolding node_within
within-inner ots h i seed depth r inner = rw (lt-ltb r (2 ^ h) inner) refl

doubled : (r half : ℕ) → r * (half * 2) ≡ 2 * r * half
doubled r half = omega arith

-- where the depth reaches the leaves, one level more makes no difference
within-deeper : (ots : OtsType) (h : ℕ) (i seed : List ℕ) (depth r : ℕ) → 2 ^ h ≤ r * 2 ^ depth
    → node_within ots h i seed depth r ≡ node_within ots h i seed (suc depth) r
within-deeper ots h i seed Nat.zero r deep =
    let leaf : 2 ^ h ≤ r = omega (arith, deep) in
    within-leaf ots h i seed 0 r leaf ∙ sym (within-leaf ots h i seed 1 r leaf)
within-deeper ots h i seed (suc depth) r deep =
    elim (cases_lt r (2 ^ h)) [
      | inl inner ↦
          let twice : r * 2 ^ suc depth ≡ 2 * r * 2 ^ depth = ap (λ n. r * n) (pow-suc 2 depth) ∙ doubled r (2 ^ depth) in
          let left : 2 ^ h ≤ 2 * r * 2 ^ depth = omega (arith, deep, twice) in
          let right : 2 ^ h ≤ (2 * r + 1) * 2 ^ depth = omega (arith, left) in
          within-inner ots h i seed depth r inner
          ∙ ap (λ l. inner_value i r l (node_within ots h i seed depth (2 * r + 1))) (within-deeper ots h i seed depth (2 * r) left)
          ∙ ap (λ l. inner_value i r (node_within ots h i seed (suc depth) (2 * r)) l) (within-deeper ots h i seed depth (2 * r + 1) right)
          ∙ sym (within-inner ots h i seed (suc depth) r inner)
      | inr leaf ↦ within-leaf ots h i seed (suc depth) r leaf ∙ sym (within-leaf ots h i seed (suc (suc depth)) r leaf)
    ]

pub node-leaf : (ots : OtsType) (h : ℕ) (i seed : List ℕ) (r : ℕ) → 2 ^ h ≤ r → tree_node ots h i seed r ≡ leaf_of ots h i seed r
node-leaf ots h i seed r leaf = within-leaf ots h i seed h r leaf

at_least : (r half whole : ℕ) → whole ≡ half * 2 → 1 ≤ r → whole ≤ 2 * r * half
at_least r half whole twice low =
    let more : 1 * half ≤ r * half = mul-le-mul_right half low in
    omega (arith, twice, more)

-- the equation of an inner node of a tree that has one
inner_of : (ots : OtsType) (h depth : ℕ) (i seed : List ℕ) (r : ℕ) → h ≡ suc depth → 1 ≤ r → r < 2 ^ h
    → node_within ots h i seed (suc depth) r
    ≡ inner_value i r (node_within ots h i seed (suc depth) (2 * r)) (node_within ots h i seed (suc depth) (2 * r + 1))
inner_of ots h depth i seed r tall low inner =
    let power : 2 ^ h ≡ 2 ^ depth * 2 = ap (λ n. 2 ^ n) tall ∙ pow-suc 2 depth in
    let left : 2 ^ h ≤ 2 * r * 2 ^ depth = at_least r (2 ^ depth) (2 ^ h) power low in
    let right : 2 ^ h ≤ (2 * r + 1) * 2 ^ depth = omega (arith, left) in
    within-inner ots h i seed depth r inner
    ∙ ap (λ l. inner_value i r l (node_within ots h i seed depth (2 * r + 1))) (within-deeper ots h i seed depth (2 * r) left)
    ∙ ap (λ l. inner_value i r (node_within ots h i seed (suc depth) (2 * r)) l) (within-deeper ots h i seed depth (2 * r + 1) right)

pub node-inner : (ots : OtsType) (h : ℕ) (i seed : List ℕ) (r : ℕ) → 1 ≤ r → r < 2 ^ h
    → tree_node ots h i seed r ≡ inner_value i r (tree_node ots h i seed (2 * r)) (tree_node ots h i seed (2 * r + 1))
node-inner ots Nat.zero i seed r low inner = absurd (omega (arith, low, inner))
node-inner ots (suc depth) i seed r low inner = inner_of ots (suc depth) depth i seed r refl low inner

within-zero : (ots : OtsType) (h : ℕ) (i seed : List ℕ) (r : ℕ) → node_within ots h i seed 0 r ≡ leaf_of ots h i seed r
unfolding node_within
within-zero ots h i seed r = refl

length-within : (ots : OtsType) (h : ℕ) (i seed : List ℕ) (depth r : ℕ) → length (node_within ots h i seed depth r) ≡ 32
length-within ots h i seed Nat.zero r = ap length (within-zero ots h i seed r) ∙ length-sha256 _
length-within ots h i seed (suc depth) r =
    elim (cases_lt r (2 ^ h)) [
      | inl inner ↦ ap length (within-inner ots h i seed depth r inner) ∙ length-sha256 _
      | inr leaf ↦ ap length (within-leaf ots h i seed (suc depth) r leaf) ∙ length-sha256 _
    ]

-- a node's value has 32 bytes
pub length-node : (ots : OtsType) (h : ℕ) (i seed : List ℕ) (r : ℕ) → length (tree_node ots h i seed r) ≡ 32
length-node ots h i seed r = length-within ots h i seed h r
