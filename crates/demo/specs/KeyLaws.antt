-- That the keys sign well.
use Rattle.std.specs.Prelude.{◌<◌, ℕ, List}
use Rattle.lms_keys.specs.SigOk.{SigOk}
use Rattle.demo.specs.Keys.{demo_key, public_bytes, signed_by}

-- the signature of each message with each leaf of each key is good for the key
abbrev pub SignWell : Type 0
SignWell = (k leaf : ℕ) (message : List ℕ) → leaf < 1024
    → SigOk (public_bytes k) message (signed_by (demo_key k) leaf message)
