-- The line that tells a key.
use Rattle.std.specs.Prelude.{◌++◌, ℕ, List, codes}
use Rattle.hex.specs.Hex.{encode_lower}
use Rattle.sha2.specs.Sha256.{sha256}

-- `key `, the SHA-256 of the public key's bytes, a space, and those bytes, in lower-case hexadecimal
abbrev pub key_line : List ℕ → List ℕ
key_line public = codes "key " ++ encode_lower (sha256 public) ++ codes " " ++ encode_lower public ++ codes "\n"
