-- The way up from a leaf: what is computed on it, and that it leads through the tree's nodes to
-- the root.
use Rattle.std.proofs.Common.{◌≡◌, ℕ, suc, ◌+◌, ◌-◌, ◌*◌, ◌/◌, ◌%◌, ◌^◌, ◌<◌, ◌≤◌, ◌==◌, true, false, List, inl, inr, sym, ◌∙◌, ap, refl, arith, add-one, lit<, lit≤}
use Prim.Native.Nat as Nat
use Rattle.std.proofs.lemmas.Bool.{cases_eq, eq-eqb, ne_eqb}
use Rattle.std.proofs.lemmas.Nat.{pow_pos, shr-shr}
use Rattle.std.proofs.Math.Nat.{pow-suc, pow-le-pow_right, le-div_iff_mul-le, div-eq_of_lt-le}
use Rattle.lmots.specs.declared.ots_type.OtsType.{OtsType}
use Rattle.lms_keys.specs.declared.lms_type.LmsType.{LmsType}
use Rattle.lms_keys.specs.declared.lms_type.LmsType.TheVariants.{H5, H10, H15, H20, H25}
use Rattle.lms_keys.specs.LmsType.{height}
use Rattle.lms_keys.specs.Tree.{above, beside, climbed, inner_value, tree_node}
use Rattle.lms_keys.proofs.Growing.{node-inner}

pub climbed_none : (i : List ℕ) (r : ℕ) (value : List ℕ) (siblings : ℕ → List ℕ) → value ≡ climbed i r value siblings 0
unfolding climbed
climbed_none i r value siblings = refl

pub climbed_more : (i : List ℕ) (r : ℕ) (value : List ℕ) (siblings : ℕ → List ℕ) (n : ℕ)
    → climbed i r value siblings (n + 1) ≡ above i (r / 2 ^ n) (climbed i r value siblings n) (siblings n)
unfolding climbed
climbed_more i r value siblings n = rw add-one refl

pub climbed-same : (i : List ℕ) (r : ℕ) (value : List ℕ) (s t : ℕ → List ℕ) (n : ℕ) → ((k : ℕ) → k < n → s k ≡ t k)
    → climbed i r value s n ≡ climbed i r value t n
unfolding climbed
climbed-same i r value s t Nat.zero same = refl
climbed-same i r value s t (suc n) same =
    ap (λ v. above i (r / 2 ^ n) v (s n)) (climbed-same i r value s t n (λ k inside. same k (omega arith)))
    ∙ ap (λ l. above i (r / 2 ^ n) (climbed i r value t n) l) (same n (omega arith))

-- one level further down, a node's number is halved once more
pub halved_more : (r n : ℕ) → r / 2 ^ n / 2 ≡ r / 2 ^ (n + 1)
halved_more r n = shr-shr r n 1

above-node : (ots : OtsType) (h : ℕ) (i seed : List ℕ) (r : ℕ) → 2 ≤ r → r / 2 < 2 ^ h
    → above i r (tree_node ots h i seed r) (tree_node ots h i seed (beside r)) ≡ tree_node ots h i seed (r / 2)
above-node ots h i seed r low inner =
    elim (cases_eq (r % 2) 0) [
      | inl even ↦
          let left : 2 * (r / 2) ≡ r = omega (arith, even) in
          let t : (r % 2 == 0) ≡ true = eq-eqb (r % 2) 0 even in
          rw t (sym (node-inner ots h i seed (r / 2) (omega (arith, low)) inner
          ∙ ap (λ k. inner_value i (r / 2) (tree_node ots h i seed k) (tree_node ots h i seed (k + 1))) left))
      | inr odd ↦
          let left : 2 * (r / 2) ≡ r - 1 = omega (arith, odd) in
          let right : 2 * (r / 2) + 1 ≡ r = omega (arith, odd) in
          let t : (r % 2 == 0) ≡ false = ne_eqb (r % 2) 0 odd in
          rw t (sym (node-inner ots h i seed (r / 2) (omega (arith, low)) inner
          ∙ ap (λ k. inner_value i (r / 2) (tree_node ots h i seed k) (tree_node ots h i seed (2 * (r / 2) + 1))) left
          ∙ ap (λ k. inner_value i (r / 2) (tree_node ots h i seed (r - 1)) (tree_node ots h i seed k)) right))
    ]

-- below the root, a node's number is at least 2
pub way_low : (h r n : ℕ) → n < h → 2 ^ h ≤ r → 2 ≤ r / 2 ^ n
way_low h r n low leaf =
    let power : 2 * 2 ^ n ≤ 2 ^ h = omega (arith, pow-suc 2 n, pow-le-pow_right {n = 2} (lit< tt) low) in
    (le-div_iff_mul-le (pow_pos n)).1 (omega (arith, power, leaf))

-- the node beside one below the root is one of the tree
pub beside-bounds : (m r : ℕ) → 2 ≤ r → r < 2 * m → (2 ≤ beside r) × (beside r < 2 * m)
beside-bounds m r low high =
    elim (cases_eq (r % 2) 0) [
      | inl even ↦ let t : (r % 2 == 0) ≡ true = eq-eqb (r % 2) 0 even in rw t (omega (arith, low), omega (arith, even, high))
      | inr odd ↦ let t : (r % 2 == 0) ≡ false = ne_eqb (r % 2) 0 odd in rw t (omega (arith, odd, low), omega (arith, high))
    ]

climbed-node : (ots : OtsType) (h : ℕ) (i seed : List ℕ) (r n : ℕ) → n ≤ h → 2 ^ h ≤ r → r < 2 * 2 ^ h
    → climbed i r (tree_node ots h i seed r) (λ level. tree_node ots h i seed (beside (r / 2 ^ level))) n ≡ tree_node ots h i seed (r / 2 ^ n)
unfolding climbed
climbed-node ots h i seed r Nat.zero low leaf inside =
    let same : r ≡ r / 1 = omega arith in
    ap (tree_node ots h i seed) same
climbed-node ots h i seed r (suc n) low leaf inside =
    let before = climbed-node ots h i seed r n (omega arith) leaf inside in
    let two_left : 2 ≤ r / 2 ^ n = way_low h r n low leaf in
    let below : r / 2 ^ n ≤ r = omega arith in
    let half : r / 2 ^ n / 2 < 2 ^ h = omega (arith, below, inside) in
    ap (λ v. above i (r / 2 ^ n) v (tree_node ots h i seed (beside (r / 2 ^ n)))) before
    ∙ above-node ots h i seed (r / 2 ^ n) two_left half
    ∙ ap (tree_node ots h i seed) (halved_more r n ∙ ap (λ k. r / 2 ^ k) (add-one n))

-- the way from a leaf ends at the root
pub climbed-root : (ots : OtsType) (h : ℕ) (i seed : List ℕ) (q : ℕ) → q < 2 ^ h
    → climbed i (2 ^ h + q) (tree_node ots h i seed (2 ^ h + q)) (λ level. tree_node ots h i seed (beside ((2 ^ h + q) / 2 ^ level))) h ≡ tree_node ots h i seed 1
climbed-root ots h i seed q inside =
    let top : (2 ^ h + q) / 2 ^ h ≡ 1 = div-eq_of_lt-le (2 ^ h) (omega arith) (omega (arith, inside)) in
    climbed-node ots h i seed (2 ^ h + q) h (omega arith) (omega arith) (omega (arith, inside))
    ∙ ap (tree_node ots h i seed) top

-- a node's number has 26 bits at most
pub leaves_small : (lms : LmsType) → 2 * 2 ^ height lms ≤ 67108864
leaves_small H5 = lit≤ tt
leaves_small H10 = lit≤ tt
leaves_small H15 = lit≤ tt
leaves_small H20 = lit≤ tt
leaves_small H25 = lit≤ tt
