-- The one-time types over SHA-256 with 32 bytes (RFC 8554, section 4.1, table 1).
use Rattle.std.specs.Prelude.{◌≡◌, ℕ, ◌+◌, ◌-◌, ◌*◌, ◌^◌, ◌<◌, ◌≤◌}
use Rattle.lmots.specs.declared.ots_type.OtsType.{OtsType}
use Rattle.lmots.specs.declared.ots_type.OtsType.TheVariants.{W1, W2, W4, W8}

-- the code that spells the type
abbrev pub code : OtsType → ℕ
code W1 = 1
code W2 = 2
code W4 = 3
code W8 = 4

-- w, the bits of a digit
abbrev pub width : OtsType → ℕ
width W1 = 1
width W2 = 2
width W4 = 4
width W8 = 8

-- p, the number of chains
abbrev pub chain_count : OtsType → ℕ
chain_count W1 = 265
chain_count W2 = 133
chain_count W4 = 67
chain_count W8 = 34

-- ls, the bits by which the checksum is shifted to the left
abbrev pub shift : OtsType → ℕ
shift W1 = 7
shift W2 = 6
shift W4 = 4
shift W8 = 0

-- the bytes of a signature: the code, the randomizer, and 32 for each chain
abbrev pub signature_len : OtsType → ℕ
signature_len kind = 36 + 32 * chain_count kind

-- p and ls as they follow from w (RFC 8554, appendix B): u digits spell the 256 bits of a digest, v
-- digits and no fewer can spell the greatest sum of what u digits lack, and the shift brings these to
-- the high end of 16 bits
pub record FollowFromWidth (kind : OtsType) : Type 0 where
  pub u : ℕ
  pub v : ℕ
  pub digest : width kind * u ≡ 256
  pub enough : (2 ^ width kind - 1) * u < 2 ^ (width kind * v)
  pub fewest : 2 ^ (width kind * (v - 1)) ≤ (2 ^ width kind - 1) * u
  pub chains : chain_count kind ≡ u + v
  pub shifted : width kind * v + shift kind ≡ 16
