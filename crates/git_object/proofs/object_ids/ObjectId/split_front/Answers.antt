use Rattle.std.proofs.Common.{sym, subst, ◌∙◌}
use Rattle.std.proofs.lemmas.Bool.{false≢true}
use Rattle.hex.specs.Hex.{encode_lower}
use Rattle.text_reader.specs.Hexadecimal.{IsLowerHexadecimal}
use Rattle.text_reader.proofs.Unique.{same_fronts}
use Rattle.git_object.proofs.IdLemmas.{length-hexadecimal, id_is_lower}
use Rattle.git_object.proofs.object_ids.ObjectId.split_front.Goals as goal

pub returns-in_default-clause-none : goal.returns-in_default-clause-none
returns-in_default-clause-none c = λ id rest is same. c.in_default.ensures.none (encode_lower id) rest (length-hexadecimal id is) same

pub returns-in_default-from_hex-clause-none : goal.returns-in_default-from_hex-clause-none
returns-in_default-from_hex-clause-none c = λ id rest is same.
    let parts = same_fronts c.in-Some.digits.now (encode_lower id) c.in-Some.rest.now rest (c.in-Some.ensures.len ∙ sym (length-hexadecimal id is)) (sym c.in-Some.ensures.found ∙ same) in
    let lower : IsLowerHexadecimal 32 c.in-Some.digits.now = subst (IsLowerHexadecimal 32) (sym parts.0) (id_is_lower id is) in
    false≢true (c.in_default-from_hex.ensures.found.1 lower)
