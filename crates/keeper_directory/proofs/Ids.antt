-- Ids of one text are equal.
use Rattle.std.proofs.Common.{◌≡◌, ℕ, List, ◌++◌, sym, ◌∙◌}
use Rattle.hex.specs.Hex.{encode_lower}
use Rattle.text_reader.proofs.Unique.{same_fronts, same_hexadecimal}
use Rattle.git_object.specs.Ids.{IsId}
use Rattle.git_object.proofs.IdLemmas.{length-hexadecimal}

-- and so is what follows
pub same_id : (a b x y : List ℕ) → IsId a → IsId b → encode_lower a ++ x ≡ encode_lower b ++ y → (a ≡ b) × (x ≡ y)
same_id a b x y ia ib e =
    let parts = same_fronts (encode_lower a) (encode_lower b) x y (length-hexadecimal a ia ∙ sym (length-hexadecimal b ib)) e in
    (same_hexadecimal a b ia.bytes ib.bytes parts.0, parts.1)
