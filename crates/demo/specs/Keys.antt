-- The three keys of a demonstration, each made of its number.
use Rattle.std.specs.Prelude.{◌++◌, ℕ, List, codes, decimal, take}
use Rattle.sha2.specs.Sha256.{sha256}
use Rattle.lmots.specs.declared.ots_type.OtsType.TheVariants.{W4}
use Rattle.lms_keys.specs.PublicKey.{key_bytes}
use Rattle.lms_keys.specs.Secret.{Secret, public_key_of, signature}
use Rattle.lms_keys.specs.declared.lms_type.LmsType.TheVariants.{H10}

-- what is hashed to make the identifier of a key, and its seed
abbrev pub identifier_text : ℕ → List ℕ
identifier_text k = codes "demo-i-" ++ decimal k

abbrev pub seed_text : ℕ → List ℕ
seed_text k = codes "demo-seed-" ++ decimal k

-- the key of a number, with 1,024 leaves and digits of four bits: the identifier is the first 16 bytes of the one hash,
-- and
-- the seed the other
unfoldable pub demo_key : ℕ → Secret
demo_key k = record { lms = H10; ots = W4; i = take 16 (sha256 (identifier_text k)); seed = sha256 (seed_text k) }

-- the bytes of its public part
unfoldable pub public_bytes : ℕ → List ℕ
public_bytes k = key_bytes (public_key_of (demo_key k))

-- its id: their SHA-256
unfoldable pub key_id : ℕ → List ℕ
key_id k = sha256 (public_bytes k)

-- the signature of a message by a key with one of its leaves (RFC 8554, section 5.4.1)
unfoldable pub signed_by : Secret → ℕ → List ℕ → List ℕ
signed_by secret leaf message = signature secret leaf message
