-- What a key file is to one who signs with it.
use Rattle.std.specs.Prelude.{◌≡◌, ◌<◌, ◌⊎◌, ◌+◌, ◌^◌, ℕ, List, length, slice_index}
use Rattle.lms_keys.specs.HssSecret.{Secret, height_of}
use Rattle.leaf_journal.specs.KeyFile.{HasNoHeader, HasOtherLength, IsKeyFile, Used, start_of}

-- too short for a header, or without one, or of another length than its leaves need
abbrev pub IsNoKeyFile : List ℕ → Type 0
IsNoKeyFile file = (length file < 64) ⊎ (HasNoHeader file ⊎ HasOtherLength file)

-- the first unused leaf of a file of this key
pub record IsLeastUnused (file : List ℕ) (secret : Secret) (leaf : ℕ) : Type 0 where
  pub is : IsKeyFile file secret
  pub within : leaf < 2 ^ height_of secret
  pub free : slice_index file (start_of secret.below + leaf) ≡ 0
  pub least : (k : ℕ) → k < leaf → Used file k

-- a file of this key of which each leaf is used
pub record IsUsedUp (file : List ℕ) (secret : Secret) : Type 0 where
  pub is : IsKeyFile file secret
  pub used : (leaf : ℕ) → leaf < 2 ^ height_of secret → Used file leaf
