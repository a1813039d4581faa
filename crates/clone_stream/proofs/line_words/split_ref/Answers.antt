use Rattle.std.proofs.Common.{◌≡◌, List, ℕ, ◌∷◌, ◌++◌, sym, ap, subst, ◌∙◌}
use Rattle.std.specs.Prelude.{codes}
use Rattle.hex.specs.Hex.{encode_lower}
use Rattle.text_reader.specs.Hexadecimal.{IsLowerHexadecimal}
use Rattle.text_reader.proofs.Unique.{has_byte_here, same_front, same_until}
use Rattle.std.proofs.lemmas.Bool.{false≢true, true≢false}
use Rattle.text_reader.specs.Line.{has_byte}
use Rattle.git_object.proofs.IdLemmas.{id_is_lower}
use Rattle.git_object.proofs.NameLemmas.{name_has_no_space}
use Rattle.clone_stream.proofs.Lines.{ref_parts}
use Rattle.clone_stream.proofs.line_words.split_ref.Goals as goal

pub returns-in_default-clause-none : goal.returns-in_default-clause-none
returns-in_default-clause-none c = λ name id is same.
    c.in_default.ensures.none (name ++ 32 ∷ encode_lower id) (same ∙ ref_parts name id)

pub returns-in_default-split_word-clause-none : goal.returns-in_default-split_word-clause-none
returns-in_default-split_word-clause-none c = λ name id is same.
    let words : c.in-Some.words.now ≡ name ++ 32 ∷ encode_lower id =
    same_front (codes "ref ") c.in-Some.words.now (name ++ 32 ∷ encode_lower id) (sym c.in-Some.ensures.found ∙ same ∙ ref_parts name id) in
    true≢false (sym (has_byte_here 32 name (encode_lower id)) ∙ ap (has_byte 32) (sym words) ∙ c.in_default-split_word.ensures.none)

pub returns-in_default-from_hex-clause-none : goal.returns-in_default-from_hex-clause-none
returns-in_default-from_hex-clause-none c = λ name id is same.
    let words : c.in-Some.words.now ≡ name ++ 32 ∷ encode_lower id =
    same_front (codes "ref ") c.in-Some.words.now (name ++ 32 ∷ encode_lower id) (sym c.in-Some.ensures.found ∙ same ∙ ref_parts name id) in
    let parts = same_until 32 c.in-Some-split_word.name.now name c.in-Some-split_word.digits.now (encode_lower id) c.in-Some-split_word.ensures.first (name_has_no_space name is.name) (sym c.in-Some-split_word.ensures.found ∙ words) in
    false≢true (c.in_default-from_hex.ensures.found.1 (subst (IsLowerHexadecimal 32) (sym parts.1) (id_is_lower id is.id)))

pub returns-clause-found : goal.returns-clause-found
returns-clause-found c =
    c.in-Some.ensures.found
    ∙ ap (λ (r : List ℕ). codes "ref " ++ r) (c.in-Some-split_word.ensures.found
    ∙ ap (λ (r : List ℕ). c.in-Some-split_word.name.now ++ 32 ∷ r) (sym c.in-Some-from_hex.ensures.value))
    ∙ sym (ref_parts c.in-Some-split_word.name.now c.in-Some-from_hex.id)
