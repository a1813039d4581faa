-- A string of bytes as digits, and the checksum of a digest.
use Rattle.std.specs.Prelude.{ℕ, suc, ◌+◌, ◌-◌, ◌*◌, ◌/◌, ◌%◌, ◌^◌, ◌<◌, List, ◌++◌, length, map, slice_index}
use Rattle.std.specs.List.{range_with_len, sum_by}
use Prim.Native.Nat as Nat
use Rattle.std.specs.Int.{w16, to_be_bytes}
use Rattle.lmots.specs.declared.ots_type.OtsType.{OtsType}
use Rattle.lmots.specs.OtsType.{width, shift, chain_count}

-- coef(S, i, w): digit i of a string, of w bits, from the high end (RFC 8554, section 3.1.3)
abbrev pub coef : List ℕ → ℕ → ℕ → ℕ
coef s i w = slice_index s (i * w / 8) / 2 ^ (8 - (w * (i % (8 / w)) + w)) % 2 ^ w

-- the number that d 0, …, d (n - 1) spell in a base, the highest first
unfoldable pub spelled : ℕ → (ℕ → ℕ) → ℕ → ℕ
spelled base d Nat.zero = 0
spelled base d (suc n) = spelled base d n * base + d n

-- the first n digits of a string
unfoldable pub digits : List ℕ → ℕ → ℕ → List ℕ
digits s w n = map (λ i. coef s i w) (range_with_len 0 n)

-- Cksm(S): what the digits lack to the greatest one, shifted to the left (RFC 8554, section 4.4)
abbrev pub checksum : OtsType → List ℕ → ℕ
checksum kind s =
    sum_by (λ d. 2 ^ width kind - 1 - d) (digits s (width kind) (256 / width kind)) * 2 ^ shift kind

-- Q || Cksm(Q) (RFC 8554, section 4.5)
abbrev pub with_checksum : OtsType → List ℕ → List ℕ
with_checksum kind q = q ++ to_be_bytes w16 (checksum kind q)

-- the digits of a digest with its checksum, one for each chain (RFC 8554, section 4.5)
abbrev pub coded : OtsType → List ℕ → List ℕ
coded kind q = digits (with_checksum kind q) (width kind) (chain_count kind)

-- in some place the second list is less than the first
pub record Less (xs ys : List ℕ) : Type 0 where
  pub place : ℕ
  pub inside : place < length ys
  pub less : slice_index ys place < slice_index xs place
