-- A message's base64 in lines: each but the last is that of 48 bytes, and each reads as its bytes.
use Rattle.std.proofs.Common.{◌≡◌, ℕ, suc, ◌+◌, ◌<◌, ◌≤◌, ◌==◌, Bool, true, false, not, ◌&&◌, List, [], ◌∷◌, ◌++◌, length, Some, None, refl, sym, ap, ◌∙◌, arith, append-nil, length-append}
use Rattle.std.specs.Prelude.{nat_le, replicate, slice_index, if◌then◌else◌}
use Rattle.std.specs.Str.{bytes_eq}
use Rattle.std.proofs.lemmas.Bool.{eq-eqb, le-leb, ne_eqb, true≢false}
use Rattle.std.proofs.lemmas.List.{length-replicate}
use Rattle.std.proofs.lemmas.Slice.Eq.{bytes_eq-Decides}
use Rattle.base64.specs.Engines.{standard}
use Rattle.base64.specs.GeneralPurpose.{IsBytes, encode_of}
use Rattle.base64.specs.Rfc4648.{encode_symbols, padding_len, unpadded_len}
use Rattle.base64.proofs.EngineFacts.{decode_of-encode_of}
use Rattle.base64.proofs.RoundTrip.{length-encode_symbols}
use Rattle.text_reader.specs.Line.{has_byte}
use Rattle.rsl_chain.specs.Grammar.{message_end}
use Rattle.rsl_chain.specs.Lines.{decoded, is_full, piece_text}
use Rattle.rsl_chain.proofs.PlainLines.{Plain, base64_lacks, no_item, symbols_lack}
use Rattle.rsl_chain.proofs.WordLemmas.{decoded_some}

abbrev pub base64 : List ℕ → List ℕ
base64 m = encode_of standard m

pub base64_length : (m : List ℕ) → length (base64 m) ≡ unpadded_len (length m) + padding_len (length m)
base64_length m =
    let symbols = length-encode_symbols standard.encode_table m in
    let fill = length-replicate {A = ℕ} (padding_len (length m)) 61 in
    let all : length (base64 m) ≡ length (encode_symbols standard.encode_table m) + length {A = ℕ} (replicate (padding_len (length m)) 61) =
    length-append (encode_symbols standard.encode_table m) (replicate (padding_len (length m)) 61) in
    omega (arith, symbols, fill, all)

pub base64_plain : (m : List ℕ) → Plain (base64 m)
base64_plain m = base64_lacks 10 m refl refl refl

pub base64_decoded : (m : List ℕ) → IsBytes m → decoded (base64 m) ≡ Some m
base64_decoded m bytes = sym (decoded_some (base64 m) m (decode_of-encode_of standard m refl bytes))

-- the length of a line of a message
pub piece_some : (m : List ℕ) → 0 < length m → 0 < length (base64 m)
piece_some m some = let long = base64_length m in omega (arith, some, long)

pub piece_most : (m : List ℕ) → length m ≤ 48 → length (base64 m) ≤ 64
piece_most m few = let long = base64_length m in omega (arith, few, long)

pub piece_whole : (m : List ℕ) → length m ≡ 48 → length (base64 m) ≡ 64
piece_whole m whole = let long = base64_length m in omega (arith, whole, long)

pub piece_read : (m : List ℕ) → 0 < length m → length m ≤ 48 → IsBytes m → piece_text (base64 m) ≡ Some m
piece_read m some few bytes =
    let filled = piece_some m some in
    ap (λ (b : Bool). if b then None else if nat_le (length (base64 m)) 64 then decoded (base64 m) else None) (ne_eqb (length (base64 m)) 0 (λ e. omega (arith, filled, e)))
    ∙ ap (λ (b : Bool). if b then decoded (base64 m) else None) (le-leb (length (base64 m)) 64 (piece_most m few))
    ∙ base64_decoded m bytes

-- 48 bytes need no filling
pub piece_full : (m : List ℕ) → length m ≡ 48 → is_full (base64 m) ≡ true
piece_full m whole =
    let none : padding_len (length m) ≡ 0 = omega (arith, whole) in
    let symbols : base64 m ≡ encode_symbols standard.encode_table m =
    ap (λ (k : ℕ). encode_symbols standard.encode_table m ++ replicate k 61) none ∙ append-nil (encode_symbols standard.encode_table m) in
    let last : (slice_index (base64 m) 63 == 61) ≡ false =
    ap (λ (t : List ℕ). slice_index t 63 == 61) symbols ∙ no_item 61 (encode_symbols standard.encode_table m) 63 refl (symbols_lack 61 standard.encode_table m refl refl) in
    ap (λ (b : Bool). b && not (slice_index (base64 m) 63 == 61)) (eq-eqb (length (base64 m)) 64 (piece_whole m whole)) ∙ ap not last

-- the line at a message's end is no base64
pub piece_not_end : (m : List ℕ) → bytes_eq (base64 m) message_end ≡ false
piece_not_end m = other (bytes_eq (base64 m) message_end) refl
  where
    other : (b : Bool) → bytes_eq (base64 m) message_end ≡ b → b ≡ false
    other true is =
        let same : base64 m ≡ message_end = (bytes_eq-Decides (base64 m) message_end).0 is in
        absurd (true≢false (sym (ap (has_byte 45) same) ∙ base64_lacks 45 m refl refl refl))
    other false is = refl

pub rest_bytes : (a b : List ℕ) → IsBytes (a ++ b) → IsBytes b
rest_bytes [] b all i = all i
rest_bytes (x ∷ a) b all i = rest_bytes a b (λ k. all (suc k)) i
