-- A header that is written part after part has each part at its place.
use Rattle.std.proofs.Common.{◌≡◌, ◌<◌, ◌≤◌, ◌+◌, ◌^◌, ℕ, codes, List, ◌++◌, length, take, drop, refl, sym, ap, ◌∙◌, append_assoc, arith}
use Rattle.std.specs.Int.{w32, from_be_bytes, to_be_bytes}
use Rattle.std.proofs.lemmas.Nat.{from_be_bytes-to_be_bytes_4}
use Rattle.lmots.specs.OtsType as ots
use Rattle.lmots.specs.declared.ots_type.OtsType.{OtsType}
use Rattle.lmots.specs.declared.ots_type.OtsType.TheVariants.{W1, W2, W4, W8}
use Rattle.lms_keys.specs.LmsType as lms
use Rattle.lms_keys.specs.LmsType.{height}
use Rattle.lms_keys.specs.PublicKey.{number_in}
use Rattle.lms_keys.specs.Secret as one
use Rattle.lms_keys.specs.declared.below.Below.{Below}
use Rattle.std.specs.Prelude.{Bool, None, Some, false, true}
use Rattle.leaf_journal.specs.Loading.{magic_for}
use Rattle.leaf_journal.proofs.Fronts.{top_moves}
use Rattle.lms_keys.specs.declared.lms_type.LmsType.{LmsType}
use Rattle.lms_keys.specs.declared.lms_type.LmsType.TheVariants.{H5, H10, H15, H20, H25}
use Rattle.leaf_journal.specs.KeyFile.{HasTop, IsHeader}
use Rattle.std.proofs.lemmas.List.{drop-drop, length-append, take_all, take_at, drop_at}

-- what stands after n bytes, with more behind it
mid : (front part rest : List ℕ) (n k : ℕ) → length front ≡ n → length part ≡ k → take k (drop n (front ++ part ++ rest)) ≡ part
mid front part rest n k before long =
    ap (λ (l : List ℕ). take k (drop n l)) (append_assoc front part rest)
    ∙ ap (take k) (drop_at front (part ++ rest) n before)
    ∙ take_at part rest k long

regroup : (a b c d e : List ℕ) → a ++ b ++ c ++ d ++ e ≡ a ++ (b ++ (c ++ (d ++ e)))
regroup a b c d e = simp append_assoc

regroup_two : (a b c d e : List ℕ) → a ++ b ++ c ++ d ++ e ≡ a ++ b ++ (c ++ (d ++ e))
regroup_two a b c d e = append_assoc (a ++ b ++ c) d e ∙ append_assoc (a ++ b) c (d ++ e)

-- the five parts of a header
pub record AreParts (p q r s t out : List ℕ) : Type 0 where
  pub a : take 8 out ≡ p
  pub b : take 4 (drop 8 out) ≡ q
  pub c : take 4 (drop 12 out) ≡ r
  pub d : take 16 (drop 16 out) ≡ s
  pub e : take 32 (drop 32 out) ≡ t

pub parts_at : (a b c d e one two three four out : List ℕ)
    → length a ≡ 8 → length b ≡ 4 → length c ≡ 4 → length d ≡ 16 → length e ≡ 32 → length out ≡ 64
    → take 8 one ≡ a → take 12 two ≡ take 8 one ++ b → take 16 three ≡ take 12 two ++ c → take 32 four ≡ take 16 three ++ d → take 64 out ≡ take 32 four ++ e
    → AreParts a b c d e out
parts_at a b c d e one two three four out la lb lc ld le long p1 p2 p3 p4 p5 =
    let whole : out ≡ a ++ b ++ c ++ d ++ e =
    sym (take_all 64 out (omega (arith, long))) ∙ p5
    ∙ ap (λ (l : List ℕ). l ++ e) (p4 ∙ ap (λ (l : List ℕ). l ++ d) (p3 ∙ ap (λ (l : List ℕ). l ++ c) (p2 ∙ ap (λ (l : List ℕ). l ++ b) p1))) in
    let ab : length (a ++ b) ≡ 12 = omega (arith, length-append a b, la, lb) in
    let abc : length (a ++ b ++ c) ≡ 16 = omega (arith, length-append (a ++ b) c, ab, lc) in
    let abcd : length (a ++ b ++ c ++ d) ≡ 32 = omega (arith, length-append (a ++ b ++ c) d, abc, ld) in
    record {
      a = ap (take 8) whole ∙ ap (take 8) (regroup a b c d e) ∙ take_at a (b ++ (c ++ (d ++ e))) 8 la;
      b = ap (λ (l : List ℕ). take 4 (drop 8 l)) (whole ∙ regroup_two a b c d e) ∙ mid a b (c ++ (d ++ e)) 8 4 la lb;
      c = ap (λ (l : List ℕ). take 4 (drop 12 l)) (whole ∙ append_assoc (a ++ b ++ c) d e) ∙ mid (a ++ b) c (d ++ e) 12 4 ab lc;
      d = ap (λ (l : List ℕ). take 16 (drop 16 l)) whole ∙ mid (a ++ b ++ c) d e 16 16 abc ld;
      e = ap (λ (l : List ℕ). take 32 (drop 32 l)) whole ∙ ap (take 32) (drop_at (a ++ b ++ c ++ d) e 32 abcd) ∙ take_all 32 e (omega (arith, le));
    }

pub lms_small : (kind : LmsType) → lms.code kind < 2 ^ 32
lms_small H5 = omega arith
lms_small H10 = omega arith
lms_small H15 = omega arith
lms_small H20 = omega arith
lms_small H25 = omega arith

pub ots_small : (kind : OtsType) → ots.code kind < 2 ^ 32
ots_small W1 = omega arith
ots_small W2 = omega arith
ots_small W4 = omega arith
ots_small W8 = omega arith

pub top_of : (magic : List ℕ) (top : one.Secret) (a b c d e out : List ℕ) (first second : ℕ) → AreParts a b c d e out → a ≡ magic
    → b ≡ to_be_bytes w32 first → first ≡ lms.code top.lms → c ≡ to_be_bytes w32 second → second ≡ ots.code top.ots → d ≡ top.i → e ≡ top.seed → HasTop magic out top
top_of magic top a b c d e out first second parts is_magic is_first code_one is_second code_two is_i is_seed = record {
  magic_is = parts.a ∙ is_magic;
  lms = ap (from_be_bytes w32) (parts.b ∙ is_first ∙ ap (to_be_bytes w32) code_one) ∙ from_be_bytes-to_be_bytes_4 (lms.code top.lms) (lms_small top.lms);
  ots = ap (from_be_bytes w32) (parts.c ∙ is_second ∙ ap (to_be_bytes w32) code_two) ∙ from_be_bytes-to_be_bytes_4 (ots.code top.ots) (ots_small top.ots);
  i = parts.d ∙ is_i;
  seed = parts.e ∙ is_seed;
}

pub magic_long : (two : Bool) → length (magic_for two) ≡ 8
magic_long false = refl
magic_long true = refl

-- two numbers of four bytes
pub two_numbers : (a b one out : List ℕ) (first second n m : ℕ) → length a ≡ 4 → length b ≡ 4 → length out ≡ 8 → take 4 one ≡ a → take 8 out ≡ take 4 one ++ b
    → a ≡ to_be_bytes w32 first → first ≡ n → b ≡ to_be_bytes w32 second → second ≡ m → n < 2 ^ 32 → m < 2 ^ 32 → (number_in out 0 ≡ n) × (number_in out 4 ≡ m)
two_numbers a b one out first second n m la lb long p1 p2 is_a first_is is_b second_is small small_too =
    let whole : out ≡ a ++ b = sym (take_all 8 out (omega (arith, long))) ∙ p2 ∙ ap (λ (l : List ℕ). l ++ b) p1 in
    let front : take 4 out ≡ a = ap (take 4) whole ∙ take_at a b 4 la in
    let back : take 4 (drop 4 out) ≡ b = ap (λ (l : List ℕ). take 4 (drop 4 l)) whole ∙ ap (take 4) (drop_at a b 4 la) ∙ take_all 4 b (omega (arith, lb)) in (
      ap (from_be_bytes w32) (front ∙ is_a ∙ ap (to_be_bytes w32) first_is) ∙ from_be_bytes-to_be_bytes_4 n small,
      ap (from_be_bytes w32) (back ∙ is_b ∙ ap (to_be_bytes w32) second_is) ∙ from_be_bytes-to_be_bytes_4 m small_too,
    )

-- a number behind a front
number_behind : (front rest : List ℕ) (n at : ℕ) → length front ≡ n → number_in (front ++ rest) (n + at) ≡ number_in rest at
number_behind front rest n at long = ap (λ (l : List ℕ). from_be_bytes w32 (take 4 l)) (sym (drop-drop at n (front ++ rest)) ∙ ap (drop at) (drop_at front rest n long))

-- the header of one level
pub header_of_one : (top : one.Secret) (out : List ℕ) → HasTop (codes "LMSKEY01") out top → length out ≡ 64 → height top.lms + 0 ≤ 15 → IsHeader out (record { top = top; below = None })
header_of_one top out is long low = record { long = omega (arith, long); top = is; below = tt; low = low }

-- and of two
pub header_of_two : (top : one.Secret) (below : Below) (front rest : List ℕ) → HasTop (codes "LMSKEY02") front top → length front ≡ 64 → length rest ≡ 8
    → number_in rest 0 ≡ lms.code below.lms → number_in rest 4 ≡ ots.code below.ots → height top.lms + height below.lms ≤ 15 → IsHeader (front ++ rest) (record { top = top; below = Some below })
header_of_two top below front rest is long size first second low = record {
  long = omega (arith, long, size, length-append front rest);
  top = top_moves (codes "LMSKEY02") front (front ++ rest) top (take_all 64 front (omega (arith, long)) ∙ sym (take_at front rest 64 long)) is;
  below = (number_behind front rest 64 0 long ∙ first, number_behind front rest 64 4 long ∙ second);
  low = low;
}
