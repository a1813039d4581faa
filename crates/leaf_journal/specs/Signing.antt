-- A signer: its key and a mark for each leaf, and what it signs.
use Rattle.std.specs.Prelude.{◌≡◌, ◌≢◌, ◌^◌, ◌<◌, ◌≤◌, ◌⊎◌, ℕ, List, length, drop, slice_index, slice_set}
use Rattle.edge_io.specs.Disk.{Torn}
use Rattle.lms_keys.specs.HssSecret.{HasLeaves, Secret, height_of, public_bytes, signature}
use Rattle.lms_keys.specs.SigOk.{SigOk}
use Rattle.leaf_journal.specs.KeyFile.{IsKeyFile, Used, start_of}

-- a signer, whose marks are bytes as the file has them
pub record Signing : Type 0 where
  pub secret : Secret
  pub marks : List ℕ

-- the leaf is marked
abbrev pub IsMarked : List ℕ → ℕ → Type 0
IsMarked marks q = slice_index marks q ≢ 0

-- the file is one of the signer's key, and its marks are the file's
pub record IsLoaded (file : List ℕ) (signing : Signing) : Type 0 where
  pub is : IsKeyFile file signing.secret
  pub marked : signing.marks ≡ drop (start_of signing.secret.below) file

-- the file is one of the signer's key, and each leaf that is used there is marked
pub record Covers (signing : Signing) (file : List ℕ) : Type 0 where
  pub is : IsKeyFile file signing.secret
  pub used : (q : ℕ) → q < length signing.marks → Used file q → IsMarked signing.marks q

-- the least leaf that is not marked
pub record IsLeast (marks : List ℕ) (q : ℕ) : Type 0 where
  pub within : q < length marks
  pub free : slice_index marks q ≡ 0
  pub least : (k : ℕ) → k < q → IsMarked marks k

-- every leaf is marked
abbrev pub AllMarked : List ℕ → Type 0
AllMarked marks = (k : ℕ) → k < length marks → IsMarked marks k

-- the signer with this leaf marked
abbrev pub marking : Signing → ℕ → Signing
marking signing q = record { secret = signing.secret; marks = slice_set signing.marks q 1 }

-- a mark for each leaf of a key whose heights add up to at most 15
pub record HasMarks (secret : Secret) (marks : List ℕ) (start : ℕ) : Type 0 where
  pub each : length marks ≡ 2 ^ height_of secret
  pub low : height_of secret ≤ 15
  pub begins : start ≡ start_of secret.below
  pub near : start ≤ 72

-- the signature of the message with this leaf, which is good for the key
pub record Signs (secret : Secret) (message : List ℕ) (q : ℕ) (s : List ℕ) : Type 0 where
  pub is : s ≡ signature secret q message
  pub good : SigOk (public_bytes secret) message s
  pub leaves : HasLeaves secret q s

-- what a crash may leave of a write that is not synced
abbrev pub IsTornImage : ℕ → ℕ → (List ℕ → Type 0) → List ℕ → Type 0
IsTornImage at n images c = images c ⊎ ((d : List ℕ) × images d × Torn at n d c)
