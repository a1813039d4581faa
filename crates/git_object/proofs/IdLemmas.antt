-- The id of zeros is an id.
use Rattle.std.proofs.Common.{◌≡◌, ℕ, zero, suc, ◌<◌, slice_index, List, length, refl, arith, lit<}
use Rattle.std.specs.Prelude.{replicate}
use Rattle.hex.specs.Hex.{encode_lower, lower_digits}
use Rattle.hex.proofs.HexLemmas.{length-encode_with}
use Rattle.text_reader.specs.Hexadecimal.{IsLowerHexadecimal}
use Rattle.text_reader.proofs.LowerHexadecimal.{encode_is_lower}
use Rattle.git_object.specs.Ids.{IsId, zeros}

-- zeros are bytes
zeros_are : (n k : ℕ) → slice_index (replicate n 0) k < 256
zeros_are zero k = lit< tt
zeros_are (suc n) zero = lit< tt
zeros_are (suc n) (suc k) = zeros_are n k

pub IsId-zeros : IsId zeros
IsId-zeros = record { length = refl; bytes = zeros_are 32 }

-- an id is written in 64 digits
pub length-hexadecimal : (id : List ℕ) → IsId id → length (encode_lower id) ≡ 64
length-hexadecimal id is = let len = is.length in omega (arith, length-encode_with lower_digits id)

-- in lower-case ones
pub id_is_lower : (id : List ℕ) → IsId id → IsLowerHexadecimal 32 (encode_lower id)
id_is_lower id is = (length-hexadecimal id is, encode_is_lower id is.bytes)
