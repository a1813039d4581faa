-- A public key, and its 56 bytes.
use Rattle.std.specs.Prelude.{◌≡◌, ◌≢◌, ◌⊎◌, ℕ, List, ◌++◌, length, take, drop}
use Rattle.std.specs.Int.{w32, to_be_bytes, from_be_bytes}
use Rattle.lmots.specs.declared.ots_type.OtsType.{OtsType}
use Rattle.lmots.specs.OtsType as one_time
use Rattle.lms_keys.specs.declared.lms_type.LmsType.{LmsType}
use Rattle.lms_keys.specs.declared.public_key.PublicKey.{PublicKey}
use Rattle.lms_keys.specs.LmsType.{code}

-- u32str(type) || u32str(otstype) || I || T[1] (RFC 8554, section 5.3)
abbrev pub key_bytes : PublicKey → List ℕ
key_bytes key =
    to_be_bytes w32 (code key.lms) ++ to_be_bytes w32 (one_time.code key.ots) ++ key.i ++ key.root

-- strTou32 of the four bytes at a place
abbrev pub number_in : List ℕ → ℕ → ℕ
number_in bytes at = from_be_bytes w32 (take 4 (drop at bytes))

-- the first or the second type code is that of no type
abbrev pub HasUnknownType : List ℕ → Type 0
HasUnknownType bytes =
    ((lms : LmsType) → number_in bytes 0 ≢ code lms)
    ⊎ ((ots : OtsType) → number_in bytes 4 ≢ one_time.code ots)

-- keys with identifiers of 16 bytes are equal where their bytes are
abbrev pub OneKey : Type 0
OneKey =
    (a b : PublicKey) → length a.i ≡ 16 → length b.i ≡ 16 → key_bytes a ≡ key_bytes b → a ≡ b
