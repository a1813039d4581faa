-- A text writes one value at most.
use Rattle.std.proofs.Common.{◌≡◌, ℕ, ◌<◌, ◌^◌, ◌==◌, List, [], ◌∷◌, ◌++◌, get_or, length, map, refl, sym, ap, ◌∙◌, arith, inl, inr}
use Rattle.std.specs.Prelude.{◌⊎◌, decimal}
use Rattle.std.specs.List.{All, slice_split}
use Rattle.std.proofs.lemmas.Fmt.{decimal_injective}
use Rattle.std.proofs.lemmas.List.Elements.{All-head, All-tail}
use Rattle.std.proofs.Math.ListN.{length-map}
use Rattle.hex.specs.Hex.{encode_lower}
use Rattle.ref_patterns.specs.Patterns.{prefix}
use Rattle.ref_patterns.specs.declared.space.Space.{Space}
use Rattle.ref_patterns.specs.declared.space.Space.TheVariants.{Git, File}
use Rattle.text_reader.proofs.Unique.{same_front, same_hexadecimal}
use Rattle.git_object.specs.Ids.{IsId}
use Rattle.command_words.specs.Ids.{AreIds}
use Rattle.command_words.specs.ValueLaws.{OneValue}
use Rattle.command_words.specs.Numbers.{IsCount}
use Rattle.command_words.specs.Spaced.{IsSpaced}
use Rattle.command_words.proofs.Joined.{split_joined, texts_are, texts_lack}

-- ids that are written alike are equal
pub same_texts : (a b : List (List ℕ)) → All IsId a → All IsId b → map encode_lower a ≡ map encode_lower b → a ≡ b
same_texts [] [] is other e = refl
same_texts [] (y ∷ b) is other e = cc
same_texts (x ∷ a) [] is other e = cc
same_texts (x ∷ a) (y ∷ b) is other e =
    let heads : encode_lower x ≡ encode_lower y = cc in
    let tails : map encode_lower a ≡ map encode_lower b = cc in
    let first : x ≡ y = same_hexadecimal x y (All-head IsId x a is).bytes (All-head IsId y b other).bytes heads in
    let rest : a ≡ b = same_texts a b (All-tail IsId x a is) (All-tail IsId y b other) tails in
    cc

-- what stands between the commas of a list of ids is the texts of the ids
pub parts_are : (most : ℕ) (text : List ℕ) (ids : List (List ℕ)) → AreIds most text ids → slice_split (λ b. b == 44) text ≡ map encode_lower ids
parts_are most text ids is =
    let some = is.some in
    let len : length (map encode_lower ids) ≡ length ids = length-map ids encode_lower in
    ap (slice_split (λ (b : ℕ). b == 44)) is.written
    ∙ split_joined 44 (map encode_lower ids) (omega arith) (texts_lack (map encode_lower ids) (texts_are ids is.are))

pub same_ids : (most : ℕ) (text : List ℕ) (a b : List (List ℕ)) → AreIds most text a → AreIds most text b → a ≡ b
same_ids most text a b is other = same_texts a b is.are other.are (sym (parts_are most text a is) ∙ parts_are most text b other)

pub same_count : (most : ℕ) (text : List ℕ) (a b : ℕ) → most < 2 ^ 64 → IsCount most text a → IsCount most text b → a ≡ b
same_count most text a b bound is other =
    let few = is.few in
    let few_too = other.few in
    decimal_injective a b (omega arith) (omega arith) (sym is.written ∙ other.written)

-- a number past the limits is not one within them
pub out_of_range : (most : ℕ) (text : List ℕ) (number count : ℕ) → most < 2 ^ 64 → number < 2 ^ 64 → text ≡ decimal number → (number < 1) ⊎ (most < number) → IsCount most text count → ⊥
out_of_range most text number count bound small written past is =
    let some = is.some in
    let few = is.few in
    let same : number ≡ count = decimal_injective number count small (omega arith) (sym written ∙ is.written) in
    elim past [ inl below ↦ omega arith | inr above ↦ omega arith ]

differ : (x y : ℕ) → x ≡ 103 → y ≡ 102 → x ≡ y → ⊥
differ x y e f same = omega arith

other_prefix : (a b : List ℕ) (s t : Space) → prefix Git ++ a ≡ prefix File ++ b → s ≡ t
other_prefix a b s t e = absurd (differ (get_or (prefix Git ++ a) 0 0) (get_or (prefix File ++ b) 0 0) refl refl (ap (λ (text : List ℕ). get_or text 0 0) e))

pub same_space : (text : List ℕ) (s t : Space) (a b : List ℕ) → IsSpaced text s a → IsSpaced text t b → s ≡ t
same_space text Git Git a b is other = refl
same_space text Git File a b is other = other_prefix a b Git File (sym is.written ∙ other.written)
same_space text File Git a b is other = other_prefix b a File Git (sym other.written ∙ is.written)
same_space text File File a b is other = refl

pub same_name : (text : List ℕ) (s t : Space) (a b : List ℕ) → IsSpaced text s a → IsSpaced text t b → a ≡ b
same_name text s t a b is other =
    let same = same_space text s t a b is other in
    same_front (prefix s) a b (sym is.written ∙ other.written ∙ ap (λ (u : Space). prefix u ++ b) (sym same))

pub one_value : OneValue
one_value = record { ids = same_ids; count = same_count; space = same_space; name = same_name }
