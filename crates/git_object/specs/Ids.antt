-- Object ids as lists of bytes (Git's object names in the object format SHA-256).
use Rattle.std.specs.Prelude.{◌≡◌, ℕ, List, length, replicate}
use Rattle.hex.specs.Hex.{IsBytes}

-- 32 bytes
pub record IsId (id : List ℕ) : Type 0 where
  pub length : length id ≡ 32
  pub bytes : IsBytes id

-- the id that stands for a reference that is not there
abbrev pub zeros : List ℕ
zeros = replicate 32 0
