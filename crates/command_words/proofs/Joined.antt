-- Parts that hold no comma are what stands between the commas of what they are joined to.
use Rattle.std.proofs.Common.{◌≡◌, ℕ, ◌≤◌, ◌==◌, true, false, List, [], ◌∷◌, length, map, refl, sym, ap, ◌∙◌, arith}
use Rattle.std.specs.List.{All, join_with_byte, slice_split}
use Rattle.std.proofs.lemmas.Bool.{true≢false, eq-eqb, ne_eqb}
use Rattle.std.proofs.lemmas.List.Elements.{All-head, All-map, All-tail, All-weaker}
use Rattle.std.proofs.lemmas.List.Splits.{slice_split_at, slice_split_none}
use Rattle.hex.specs.Hex.{encode_lower}
use Rattle.text_reader.specs.Hexadecimal.{IsLowerHexadecimal, is_lower_digit}
use Rattle.git_object.specs.Ids.{IsId}
use Rattle.git_object.proofs.IdLemmas.{id_is_lower}

-- the byte does not stand in the part
abbrev pub Lacks : ℕ → List ℕ → Type 0
Lacks c part = All (λ b. (b == c) ≡ false) part

pub split_joined : (c : ℕ) (parts : List (List ℕ)) → 1 ≤ length parts → All (Lacks c) parts → slice_split (λ b. b == c) (join_with_byte c parts) ≡ parts
split_joined c [] some none = absurd (omega arith)
split_joined c (part ∷ []) some none = slice_split_none (λ (b : ℕ). b == c) part (All-head (Lacks c) part [] none)
split_joined c (part ∷ next ∷ rest) some none =
    slice_split_at (λ (b : ℕ). b == c) part c (join_with_byte c (next ∷ rest)) (All-head (Lacks c) part (next ∷ rest) none) (eq-eqb c c refl)
    ∙ ap (λ (r : List (List ℕ)). part ∷ r) (split_joined c (next ∷ rest) (omega arith) (All-tail (Lacks c) part (next ∷ rest) none))

digit_lacks : (b : ℕ) → is_lower_digit b ≡ true → (b == 44) ≡ false
digit_lacks b digit = ne_eqb b 44 (λ same. true≢false (sym digit ∙ ap is_lower_digit same))

pub text_lacks : (text : List ℕ) → IsLowerHexadecimal 32 text → Lacks 44 text
text_lacks text is = All-weaker (λ (b : ℕ). is_lower_digit b ≡ true) (λ (b : ℕ). (b == 44) ≡ false) digit_lacks text is.1

-- the texts of ids are in lower-case hexadecimal
pub texts_are : (ids : List (List ℕ)) → All IsId ids → All (IsLowerHexadecimal 32) (map encode_lower ids)
texts_are ids are = All-map (IsLowerHexadecimal 32) encode_lower ids (All-weaker IsId (λ (id : List ℕ). IsLowerHexadecimal 32 (encode_lower id)) id_is_lower ids are)

pub texts_lack : (parts : List (List ℕ)) → All (IsLowerHexadecimal 32) parts → All (Lacks 44) parts
texts_lack parts are = All-weaker (IsLowerHexadecimal 32) (Lacks 44) text_lacks parts are
