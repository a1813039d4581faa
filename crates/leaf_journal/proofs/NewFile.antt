-- A new key file: a header, and a zero for each leaf.
use Rattle.std.proofs.Common.{◌≡◌, ◌+◌, ◌^◌, ◌≤◌, ◌-◌, ℕ, List, ◌++◌, length, take, drop, get_or, inl, inr, sym, ap, ◌∙◌, subst, arith}
use Rattle.std.specs.Prelude.{replicate}
use Rattle.std.proofs.lemmas.Bool.{cases_lt}
use Rattle.std.proofs.lemmas.List.{get_or-append_right, get_or-drop, get_or-replicate, get_or_past, length-append, length-drop, length-replicate, take_all, take_at}
use Rattle.lms_keys.specs.HssSecret.{Secret, height_of}
use Rattle.leaf_journal.specs.KeyFile.{IsHeader, IsNewKeyFile, start_of}
use Rattle.leaf_journal.proofs.Fronts.{header_moves}

zero_at : (n i : ℕ) → ◌≡◌ {A = ℕ} (get_or (replicate n 0) i 0) 0
zero_at n i = elim (cases_lt i n) [
  | inl below ↦ get_or-replicate n i 0 0 below
  | inr past ↦ get_or_past (replicate n 0) i 0 (omega (arith, past, length-replicate {A = ℕ} n 0))
]

pub new_is : (secret : Secret) (s : ℕ) (head rest tail items : List ℕ) (n : ℕ) → s ≡ start_of secret.below → IsHeader head secret → length head ≡ s → items ≡ replicate n 0 → rest ≡ drop s items
    → n ≡ s + 2 ^ height_of secret → IsNewKeyFile secret (take n (head ++ rest ++ tail))
new_is secret s head rest tail items n begins header long zeros behind size =
    let items_long : length items ≡ n = ap (λ (l : List ℕ). length l) zeros ∙ length-replicate n 0 in
    let rest_long : length rest ≡ 2 ^ height_of secret = ap (λ (l : List ℕ). length l) behind ∙ omega (arith, length-drop s items, items_long, size) in
    let whole_long : length (head ++ rest) ≡ n = omega (arith, length-append head rest, long, rest_long, size) in
    let whole : take n (head ++ rest ++ tail) ≡ head ++ rest = take_at (head ++ rest) tail n whole_long in
    let at_front : length head ≡ start_of secret.below = long ∙ begins in
    let moved : IsHeader (head ++ rest) secret =
    header_moves head (head ++ rest) secret (take_all (start_of secret.below) head (omega (arith, at_front)) ∙ sym (take_at head rest (start_of secret.below) at_front))
    (omega (arith, whole_long, size, begins)) header in
    subst (IsNewKeyFile secret) (sym whole) (record {
      is = record { header = moved; size = whole_long ∙ omega (arith, size, begins) };
      unused = λ q.
          let place : s + q - s ≡ q = omega arith in
          let after : s ≤ s + q = omega arith in
          ap (λ (k : ℕ). get_or (head ++ rest) (k + q) 0) (sym begins)
          ∙ get_or-append_right head rest s (s + q) 0 long after ∙ ap (λ (k : ℕ). get_or rest k 0) place
          ∙ ap (λ (l : List ℕ). get_or l q 0) (behind ∙ ap (drop s) zeros) ∙ get_or-drop s (replicate n 0) q 0 ∙ zero_at n (s + q);
    })
