-- The 56 bytes of a public key are its four parts.
use Rattle.std.proofs.Common.{◌≡◌, ℕ, ◌+◌, ◌<◌, ◌≤◌, List, ◌++◌, length, take, drop, get_or, inl, inr, sym, ◌∙◌, ap, arith, length-take, length-drop, append_assoc}
use Rattle.std.specs.Int.{w32, to_be_bytes, from_be_bytes}
use Rattle.std.proofs.lemmas.Bool.{cases_lt}
use Rattle.std.proofs.lemmas.Nat.{be_bytes_4}
use Rattle.std.proofs.lemmas.List.{take-append-drop, take_all, drop-drop, get_or-take, get_or-drop, get_or_past}

small_part : (bytes : List ℕ) (at k : ℕ) → ((j : ℕ) → get_or bytes j 0 < 256) → get_or (take 4 (drop at bytes)) k 0 < 256
small_part bytes at k small =
    elim (cases_lt k 4) [
      | inl below ↦ omega (arith, get_or-take 4 (drop at bytes) k 0 below, get_or-drop at bytes k 0, small (at + k))
      | inr above ↦ omega (arith, get_or_past (take 4 (drop at bytes)) k 0 (omega (arith, above, length-take 4 (drop at bytes))))
    ]

-- four bytes spell the number that they are read as
pub number_bytes : (bytes : List ℕ) (at n : ℕ) → at + 4 ≤ length bytes → ((k : ℕ) → get_or bytes k 0 < 256)
    → n ≡ from_be_bytes w32 (take 4 (drop at bytes)) → to_be_bytes w32 n ≡ take 4 (drop at bytes)
number_bytes bytes at n room small read =
    be_bytes_4 (take 4 (drop at bytes)) n (omega (arith, length-take 4 (drop at bytes), length-drop at bytes))
    (λ k. small_part bytes at k small) read

-- the bytes from one place on are those up to a next place, and those from there on
part : (bytes : List ℕ) (at n : ℕ) → drop at bytes ≡ take n (drop at bytes) ++ drop (at + n) bytes
part bytes at n = sym (take-append-drop n (drop at bytes)) ∙ ap (λ l. take n (drop at bytes) ++ l) (drop-drop n at bytes)

pub key_parts : (bytes : List ℕ) (lms ots : ℕ) → length bytes ≡ 56 → ((k : ℕ) → get_or bytes k 0 < 256)
    → lms ≡ from_be_bytes w32 (take 4 (drop 0 bytes)) → ots ≡ from_be_bytes w32 (take 4 (drop 4 bytes))
    → bytes ≡ to_be_bytes w32 lms ++ to_be_bytes w32 ots ++ take 16 (drop 8 bytes) ++ take 32 (drop 24 bytes)
key_parts bytes lms ots long small is_lms is_ots =
    let a : List ℕ = take 4 (drop 0 bytes) in
    let b : List ℕ = take 4 (drop 4 bytes) in
    let c : List ℕ = take 16 (drop 8 bytes) in
    let d : List ℕ = take 32 (drop 24 bytes) in
    let last : drop 24 bytes ≡ d = sym (take_all 32 (drop 24 bytes) (omega (arith, long, length-drop 24 bytes))) in
    let nested : bytes ≡ a ++ (b ++ (c ++ d)) =
    part bytes 0 4 ∙ ap (λ l. a ++ l) (part bytes 4 4 ∙ ap (λ l. b ++ l) (part bytes 8 16 ∙ ap (λ l. c ++ l) last)) in
    nested ∙ sym (append_assoc a b (c ++ d)) ∙ sym (append_assoc (a ++ b) c d)
    ∙ ap (λ l. l ++ b ++ c ++ d) (sym (number_bytes bytes 0 lms (omega (arith, long)) small is_lms))
    ∙ ap (λ l. to_be_bytes w32 lms ++ l ++ c ++ d) (sym (number_bytes bytes 4 ots (omega (arith, long)) small is_ots))
