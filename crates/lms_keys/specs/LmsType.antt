-- The types over SHA-256 with 32 bytes (RFC 8554, section 5.1, table 2).
use Rattle.std.specs.Prelude.{ℕ, ◌+◌, ◌*◌}
use Rattle.lmots.specs.declared.ots_type.OtsType.{OtsType}
use Rattle.lmots.specs.OtsType as one_time
use Rattle.lms_keys.specs.declared.lms_type.LmsType.{LmsType}
use Rattle.lms_keys.specs.declared.lms_type.LmsType.TheVariants.{H5, H10, H15, H20, H25}

-- the code that spells the type
abbrev pub code : LmsType → ℕ
code H5 = 5
code H10 = 6
code H15 = 7
code H20 = 8
code H25 = 9

-- h, the number of levels above the leaves
abbrev pub height : LmsType → ℕ
height H5 = 5
height H10 = 10
height H15 = 15
height H20 = 20
height H25 = 25

-- the bytes of a signature: the leaf's number, the one-time signature, the code, and 32 for each
-- level
abbrev pub signature_len : LmsType → OtsType → ℕ
signature_len lms ots = 8 + one_time.signature_len ots + 32 * height lms
