-- Of two different digests with their checksums, the second has a lesser digit in some place.
use Rattle.std.proofs.Common.{◌≡◌, ◌≢◌, ℕ, ◌-◌, ◌*◌, ◌/◌, ◌^◌, ◌<◌, ◌≤◌, List, length, slice_index, inl, inr, sym, ◌∙◌, arith}
use Rattle.std.specs.List.{sum_by}
use Rattle.std.specs.Int.{w16, to_be_bytes}
use Rattle.std.proofs.lemmas.List.{ext_get_or, get_or-append_right}
use Rattle.lmots.specs.declared.ots_type.OtsType.{OtsType}
use Rattle.lmots.specs.declared.ots_type.OtsType.TheVariants.{W1, W2, W4, W8}
use Rattle.lmots.specs.OtsType.{width, chain_count}
use Rattle.lmots.specs.Digits.{Less, checksum, coded, coef, digits, with_checksum}
use Rattle.lmots.proofs.DigitLists.{coef-front, length-digits, slice_index-digits}
use Rattle.lmots.proofs.Sums.{checksum_small}
use Rattle.lmots.proofs.Compared.{AllAtLeast, less_or_none, same_digits}
use Rattle.lmots.proofs.Checks.{EndsIn, rises_W1, rises_W2, rises_W4, rises_W8}
use Rattle.lmots.proofs.DigitBytes.{SameDigits, byte_W1, byte_W2, byte_W4, byte_W8}

-- 32 bytes
pub record IsDigest (q : List ℕ) : Type 0 where
  pub long : length q ≡ 32
  pub bytes : (i : ℕ) → slice_index q i < 256

-- what the digits of a digest lack
abbrev lacked : OtsType → List ℕ → ℕ
lacked kind q = sum_by (λ d. 2 ^ width kind - 1 - d) (digits q (width kind) (256 / width kind))

ends_in : (kind : OtsType) (q : List ℕ) → length q ≡ 32 → EndsIn (with_checksum kind q) (checksum kind q)
ends_in kind q long = record {
  fits = checksum_small kind q;
  high = get_or-append_right q (to_be_bytes w16 (checksum kind q)) 32 32 0 long (omega arith);
  low = get_or-append_right q (to_be_bytes w16 (checksum kind q)) 32 33 0 long (omega arith);
}

lacked_rises : (kind : OtsType) (q r : List ℕ) → length q ≡ 32 → length r ≡ 32
    → AllAtLeast (with_checksum kind q) (with_checksum kind r) (width kind) (chain_count kind) → lacked kind q ≤ lacked kind r
lacked_rises W1 q r long long_too none = rises_W1 _ _ (lacked W1 q) (lacked W1 r) (ends_in W1 q long) (ends_in W1 r long_too) none
lacked_rises W2 q r long long_too none = rises_W2 _ _ (lacked W2 q) (lacked W2 r) (ends_in W2 q long) (ends_in W2 r long_too) none
lacked_rises W4 q r long long_too none = rises_W4 _ _ (lacked W4 q) (lacked W4 r) (ends_in W4 q long) (ends_in W4 r long_too) none
lacked_rises W8 q r long long_too none = rises_W8 _ _ (lacked W8 q) (lacked W8 r) (ends_in W8 q long) (ends_in W8 r long_too) none

-- a digit of the digest itself is none of the checksum
inside_front : (kind : OtsType) (k : ℕ) → k < 256 / width kind → (k * width kind / 8 < 32) × (k < chain_count kind)
inside_front W1 k inside = (omega arith, omega arith)
inside_front W2 k inside = (omega arith, omega arith)
inside_front W4 k inside = (omega arith, omega arith)
inside_front W8 k inside = (omega arith, omega arith)

pub coef-le : (kind : OtsType) (s : List ℕ) (k : ℕ) → coef s k (width kind) ≤ 2 ^ width kind - 1
coef-le W1 s k = omega arith
coef-le W2 s k = omega arith
coef-le W4 s k = omega arith
coef-le W8 s k = omega arith

same_byte : (kind : OtsType) (q r : List ℕ) → IsDigest q → IsDigest r → SameDigits q r (width kind) (256 / width kind)
    → (i : ℕ) → i < 32 → slice_index q i ≡ slice_index r i
same_byte W1 q r first second same i inside = byte_W1 q r i inside (first.bytes i) (second.bytes i) same
same_byte W2 q r first second same i inside = byte_W2 q r i inside (first.bytes i) (second.bytes i) same
same_byte W4 q r first second same i inside = byte_W4 q r i inside (first.bytes i) (second.bytes i) same
same_byte W8 q r first second same i inside = byte_W8 q r i inside (first.bytes i) (second.bytes i) same

same_if_none_less : (kind : OtsType) (q r : List ℕ) → IsDigest q → IsDigest r
    → AllAtLeast (with_checksum kind q) (with_checksum kind r) (width kind) (chain_count kind) → q ≡ r
same_if_none_less kind q r first second none =
    let front : AllAtLeast q r (width kind) (256 / width kind) = λ k inside.
    let within = inside_front kind k inside in
    let e = coef-front q (to_be_bytes w16 (checksum kind q)) k (width kind) (omega (arith, within.0, first.long)) in
    let f = coef-front r (to_be_bytes w16 (checksum kind r)) k (width kind) (omega (arith, within.0, second.long)) in
    omega (arith, e, f, none k within.1) in
    let same = same_digits (2 ^ width kind - 1) q r (width kind) (256 / width kind) (coef-le kind r) front
    (lacked_rises kind q r first.long second.long none) in
    ext_get_or 0 q r (first.long ∙ sym second.long)
    (λ i inside. same_byte kind q r first second same i (omega (arith, inside, first.long)))

pub less_somewhere : (kind : OtsType) (q r : List ℕ) → IsDigest q → IsDigest r → q ≢ r → Less (coded kind q) (coded kind r)
less_somewhere kind q r first second differ =
    elim (less_or_none (with_checksum kind q) (with_checksum kind r) (width kind) (chain_count kind)) [
      | inl found ↦
          let here = slice_index-digits (with_checksum kind q) (width kind) (chain_count kind) found.0 found.1 in
          let there = slice_index-digits (with_checksum kind r) (width kind) (chain_count kind) found.0 found.1 in
          record {
            place = found.0;
            inside = omega (arith, found.1, length-digits (with_checksum kind r) (width kind) (chain_count kind));
            less = omega (arith, here, there, found.2);
          }
      | inr none ↦ absurd (differ (same_if_none_less kind q r first second none))
    ]
