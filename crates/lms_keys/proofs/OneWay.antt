-- Two ways up a tree from one node: where they meet, they are the same, or texts on them collide.
use Rattle.std.proofs.Common.{◌≡◌, ◌≢◌, ◌⊎◌, ℕ, suc, ◌/◌, ◌%◌, ◌^◌, ◌<◌, List, ◌++◌, length, inl, inr, sym, ◌∙◌, ap, subst, refl, arith}
use Prim.Native.Nat as Nat
use Rattle.std.specs.Int.{w16, w32, to_be_bytes}
use Rattle.std.proofs.lemmas.Bool.{cases_eq, cases_lt, eq-eqb, ne_eqb}
use Rattle.sha2.specs.Sha256.{sha256}
use Rattle.sha2.proofs.Facts256.{length-sha256}
use Rattle.lmots.proofs.Blocks.{AreBlocks}
use Rattle.lms_keys.specs.Tree.{above, above_text, climbed, inner_text}
use Rattle.lms_keys.specs.OneLeaf.{Collide}
use Rattle.lms_keys.proofs.Collisions.{same_or_not, two_parts}

text_even : (i : List ℕ) (r : ℕ) (v s : List ℕ) → r % 2 ≡ 0 → above_text i r v s ≡ inner_text i (r / 2) v s
text_even i r v s even = rw (eq-eqb (r % 2) 0 even) refl

text_odd : (i : List ℕ) (r : ℕ) (v s : List ℕ) → r % 2 ≢ 0 → above_text i r v s ≡ inner_text i (r / 2) s v
text_odd i r v s odd = rw (ne_eqb (r % 2) 0 odd) refl

-- a node is the hash of its text
above-text : (i : List ℕ) (r : ℕ) (v s : List ℕ) → above i r v s ≡ sha256 (above_text i r v s)
above-text i r v s =
    elim (cases_eq (r % 2) 0) [
      | inl even ↦ rw (eq-eqb (r % 2) 0 even) refl
      | inr odd ↦ rw (ne_eqb (r % 2) 0 odd) refl
    ]

-- the text of a node fixes the two nodes below it
text_parts : (i : List ℕ) (r : ℕ) (v s w t : List ℕ) → length v ≡ 32 → length s ≡ 32 → length w ≡ 32 → length t ≡ 32
    → above_text i r v s ≡ above_text i r w t → (v ≡ w) × (s ≡ t)
text_parts i r v s w t long_v long_s long_w long_t same =
    let front : List ℕ = i ++ to_be_bytes w32 (r / 2) ++ to_be_bytes w16 0x8383 in
    elim (cases_eq (r % 2) 0) [
      | inl even ↦ two_parts front v s w t long_v long_w (sym (text_even i r v s even) ∙ same ∙ text_even i r w t even)
      | inr odd ↦
          let both = two_parts front s v t w long_s long_t (sym (text_odd i r v s odd) ∙ same ∙ text_odd i r w t odd) in
          (both.1, both.0)
    ]

length-climbed : (i : List ℕ) (r : ℕ) (v : List ℕ) (s : ℕ → List ℕ) (n : ℕ) → length v ≡ 32 → length (climbed i r v s n) ≡ 32
unfolding climbed
length-climbed i r v s Nat.zero long = long
length-climbed i r v s (suc n) long =
    ap length (above-text i (r / 2 ^ n) (climbed i r v s n) (s n)) ∙ length-sha256 _

pub record SameWay (v w : List ℕ) (s t : ℕ → List ℕ) (n : ℕ) : Type 0 where
  pub start : v ≡ w
  pub beside : (k : ℕ) → k < n → s k ≡ t k

pub record Parted (i : List ℕ) (r : ℕ) (v w : List ℕ) (s t : ℕ → List ℕ) (n : ℕ) : Type 0 where
  pub level : ℕ
  pub inside : level < n
  pub collide :
      Collide (above_text i (r / 2 ^ level) (climbed i r v s level) (s level))
      (above_text i (r / 2 ^ level) (climbed i r w t level) (t level))

-- two ways up from one node that meet are the same, or two texts on them collide
pub one_way : (i : List ℕ) (r : ℕ) (v w : List ℕ) (s t : ℕ → List ℕ) (n : ℕ) → length v ≡ 32 → length w ≡ 32 → AreBlocks s n → AreBlocks t n
    → climbed i r v s n ≡ climbed i r w t n → SameWay v w s t n ⊎ Parted i r v w s t n
unfolding climbed
one_way i r v w s t Nat.zero long_v long_w long_s long_t same = inl (record { start = same; beside = λ k inside. absurd (omega arith) })
one_way i r v w s t (suc n) long_v long_w long_s long_t same =
    let x : List ℕ = climbed i r v s n in
    let y : List ℕ = climbed i r w t n in
    let a : List ℕ = above_text i (r / 2 ^ n) x (s n) in
    let b : List ℕ = above_text i (r / 2 ^ n) y (t n) in
    let hashes : sha256 a ≡ sha256 b = sym (above-text i (r / 2 ^ n) x (s n)) ∙ same ∙ above-text i (r / 2 ^ n) y (t n) in
    elim (same_or_not a b) [
      | inr differ ↦ inr (record { level = n; inside = omega arith; collide = record { differ = differ; same = hashes } })
      | inl texts ↦
          let parts = text_parts i (r / 2 ^ n) x (s n) y (t n) (length-climbed i r v s n long_v) (long_s n (omega arith))
          (length-climbed i r w t n long_w) (long_t n (omega arith)) texts in
          elim (one_way i r v w s t n long_v long_w (λ k below. long_s k (omega arith)) (λ k below. long_t k (omega arith)) parts.0) [
            | inl way ↦
                inl (record {
                  start = way.start;
                  beside = λ k inside.
                      elim (cases_lt k n) [
                        | inl below ↦ way.beside k below
                        | inr last ↦ let e : k ≡ n = omega (arith, inside, last) in subst (λ m. s m ≡ t m) (sym e) parts.1
                      ];
                })
            | inr found ↦ inr (record { level = found.level; inside = omega (arith, found.inside); collide = found.collide })
          ]
    ]
