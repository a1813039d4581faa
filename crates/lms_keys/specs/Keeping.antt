-- What a signing key keeps: the key that signs messages, the one that signs it, and where that one stands.
use Rattle.std.specs.Prelude.{◌≡◌, ℕ, ◌≤◌, List, length, Option, None, Some}
use Rattle.lms_keys.specs.Secret as one
use Rattle.lms_keys.specs.HssSecret.{Secret, bottom_of, height_of, public_bytes}
use Rattle.lms_keys.specs.declared.below.Below.{Below}

abbrev pub types_of : one.Secret → Below
types_of key = record { lms = key.lms; ots = key.ots }

-- the key that these make, of which the last signs messages
abbrev pub secret_in : Option one.Secret → one.Secret → Secret
secret_in None last = record { top = last; below = None }
secret_in (Some top) last = record { top = top; below = Some (types_of last) }

-- the last key is the one below a leaf, of the key with this identifier and seed
abbrev pub IsBottom : one.Secret → List ℕ → List ℕ → ℕ → Type 0
IsBottom last i seed leaf = last ≡ bottom_of i seed (types_of last) leaf

abbrev pub StandsBelow : Option one.Secret → one.Secret → List ℕ → List ℕ → ℕ → Type 0
StandsBelow None last i seed leaf = (last.i ≡ i) × (last.seed ≡ seed)
StandsBelow (Some top) last i seed leaf = (top.i ≡ i) × (top.seed ≡ seed) × IsBottom last i seed leaf

pub record IsWhole (top : Option one.Secret) (last : one.Secret) (i seed : List ℕ) (leaf : ℕ) (public : List ℕ) : Type 0
  where
    pub wide : length i ≡ 16
    pub stands : StandsBelow top last i seed leaf
    pub told : public ≡ public_bytes (secret_in top last)
    pub low : height_of (secret_in top last) ≤ 15
