use Rattle.std.proofs.Common.{◌≡◌, List, ℕ, ◌∷◌, ◌++◌, sym, ap, ◌∙◌}
use Rattle.std.specs.Prelude.{codes}
use Rattle.hex.specs.Hex.{encode_lower}
use Rattle.git_object.specs.Objects.{kind_name}
use Rattle.text_reader.proofs.Unique.{same_front}
use Rattle.git_object.proofs.LineLemmas.{same_id}
use Rattle.clone_stream.proofs.Lines.{object_parts, same_after_space}
use Rattle.clone_stream.proofs.line_words.split_head.Goals as goal

pub returns-in_default-clause-none : goal.returns-in_default-clause-none
returns-in_default-clause-none c = λ id kind digits is same.
    c.in_default.ensures.none (encode_lower id ++ 32 ∷ (kind_name kind ++ 32 ∷ digits)) (same ∙ object_parts id kind digits)

pub returns-in_default-split_id-clause-none : goal.returns-in_default-split_id-clause-none
returns-in_default-split_id-clause-none c = λ id kind digits is same.
    c.in_default-split_id.ensures.none id (kind_name kind ++ 32 ∷ digits) is
    (same_front (codes "object ") c.in-Some.words.now (encode_lower id ++ 32 ∷ (kind_name kind ++ 32 ∷ digits)) (sym c.in-Some.ensures.found ∙ same ∙ object_parts id kind digits))

pub returns-in_default-split_front-clause-none : goal.returns-in_default-split_front-clause-none
returns-in_default-split_front-clause-none c = λ id kind digits is same.
    let words : c.in-Some.words.now ≡ encode_lower id ++ 32 ∷ (kind_name kind ++ 32 ∷ digits) =
    same_front (codes "object ") c.in-Some.words.now (encode_lower id ++ 32 ∷ (kind_name kind ++ 32 ∷ digits)) (sym c.in-Some.ensures.found ∙ same ∙ object_parts id kind digits) in
    let after = same_id c.in-Some-split_id.found.0 id (32 ∷ c.in-Some-split_id.found.1.now) (32 ∷ (kind_name kind ++ 32 ∷ digits)) c.in-Some-split_id.ensures.valid is (sym c.in-Some-split_id.ensures.found ∙ words) in
    c.in_default-split_front.ensures.none kind digits (same_after_space c.in-Some-split_id.found.1.now (kind_name kind ++ 32 ∷ digits) after.1)

pub returns-clause-found : goal.returns-clause-found
returns-clause-found c =
    c.in-Some.ensures.found
    ∙ ap (λ (r : List ℕ). codes "object " ++ r) (c.in-Some-split_id.ensures.found
    ∙ ap (λ (r : List ℕ). encode_lower c.in-Some-split_id.found.0 ++ 32 ∷ r) c.in-Some-split_front.ensures.found)
    ∙ sym (object_parts c.in-Some-split_id.found.0 c.in-Some-split_front.kind c.in-Some-split_front.digits.now)
