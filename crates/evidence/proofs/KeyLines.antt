-- The line of a key: what is read in front of a text is the only one that could stand there.
use Rattle.std.proofs.Common.{◌≡◌, ℕ, false, List, [], ◌∷◌, ◌++◌, length, sym, ap, subst, ◌∙◌, inl, inr, arith, append_assoc}
use Rattle.std.specs.Prelude.{codes}
use Rattle.hex.specs.Hex.{IsBytes, encode_lower, lower_digits}
use Rattle.hex.proofs.HexLemmas.{length-encode_with}
use Rattle.text_reader.specs.Hexadecimal.{IsLowerHexadecimal}
use Rattle.text_reader.specs.Line.{has_byte}
use Rattle.text_reader.proofs.LowerHexadecimal.{encode_is_lower}
use Rattle.text_reader.proofs.Unique.{same_front, same_hexadecimal, same_until}
use Rattle.evidence.specs.Breaks.{IsKeyLine}
use Rattle.evidence.specs.Dossiers.{IsPublic, key_line}
use Rattle.evidence.proofs.Bytes.{lower_one_line}

pub is_lower : (n : ℕ) (bytes : List ℕ) → length bytes ≡ n → IsBytes bytes → IsLowerHexadecimal n (encode_lower bytes)
is_lower n bytes long is = (omega (arith, length-encode_with lower_digits bytes, long), encode_is_lower bytes is)

-- a text that is read neither as 56 bytes nor as 60 writes no key
pub no_public : (text : List ℕ) → (IsLowerHexadecimal 56 text → ⊥) → (IsLowerHexadecimal 60 text → ⊥) → (public : List ℕ) → IsPublic public → text ≡ encode_lower public → ⊥
no_public text lms hss public is same = elim is.long [
  | inl long ↦ lms (subst (IsLowerHexadecimal 56) (sym same) (is_lower 56 public long is.bytes))
  | inr long ↦ hss (subst (IsLowerHexadecimal 60) (sym same) (is_lower 60 public long is.bytes))
]

pub key_then : (public more : List ℕ) → key_line public ++ more ≡ codes "key " ++ (encode_lower public ++ 10 ∷ more)
unfolding key_line
key_then public more = ap (λ (r : List ℕ). codes "key " ++ r) (append_assoc (encode_lower public) (10 ∷ []) more)

pub public_one_line : (public : List ℕ) → IsPublic public → has_byte 10 (encode_lower public) ≡ false
public_one_line public is = lower_one_line (encode_lower public) (encode_is_lower public is.bytes)

-- the digits and what follows, of one text
pub same_digits : (words digits rest public more : List ℕ) → IsPublic public → has_byte 10 digits ≡ false → words ≡ digits ++ 10 ∷ rest
    → words ≡ encode_lower public ++ 10 ∷ more → (digits ≡ encode_lower public) × (rest ≡ more)
same_digits words digits rest public more is line found same =
    same_until 10 digits (encode_lower public) rest more line (public_one_line public is) (sym found ∙ same)

pub same_key_line : (a b x y : List ℕ) → IsPublic a → IsPublic b → key_line a ++ x ≡ key_line b ++ y → (a ≡ b) × (x ≡ y)
same_key_line a b x y ia ib e =
    let after : encode_lower a ++ 10 ∷ x ≡ encode_lower b ++ 10 ∷ y =
    same_front (codes "key ") (encode_lower a ++ 10 ∷ x) (encode_lower b ++ 10 ∷ y) (sym (key_then a x) ∙ e ∙ key_then b y) in
    let parts = same_until 10 (encode_lower a) (encode_lower b) x y (public_one_line a ia) (public_one_line b ib) after in
    (same_hexadecimal a b ia.bytes ib.bytes parts.0, parts.1)

-- what stands behind the word
pub key_words : (text words part more : List ℕ) → text ≡ codes "key " ++ words → (is : IsKeyLine part) → text ≡ part ++ more → words ≡ encode_lower is.public ++ 10 ∷ more
key_words text words part more found is same =
    same_front (codes "key ") words (encode_lower is.public ++ 10 ∷ more) (sym found ∙ same ∙ ap (λ (p : List ℕ). p ++ more) is.is ∙ key_then is.public more)

pub key_found : (text words digits rest public : List ℕ) → text ≡ codes "key " ++ words → words ≡ digits ++ 10 ∷ rest → encode_lower public ≡ digits → text ≡ key_line public ++ rest
key_found text words digits rest public found line is =
    found ∙ ap (λ (r : List ℕ). codes "key " ++ r) (line ∙ ap (λ (d : List ℕ). d ++ 10 ∷ rest) (sym is)) ∙ sym (key_then public rest)
