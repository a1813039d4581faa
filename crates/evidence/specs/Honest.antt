-- Signatures with two leaves that one key run released.
use Rattle.std.specs.Prelude.{◌≡◌, ◌≢◌, ◌<◌, ◌^◌, ℕ, List, slice_get, Option, Some, None}
use Rattle.lms_keys.specs.LmsType.{height}
use Rattle.lms_keys.specs.Secret as one
use Rattle.lms_keys.specs.HssSecret.{Secret, bottom_of, bytes_of, height_of, public_bytes}
use Rattle.lms_keys.specs.declared.below.Below.{Below}
use Rattle.leaf_journal.specs.KeyFile.{IsKeyFile}
use Rattle.leaf_journal.specs.Runs.{Event, IsKeyRun, released_in}
use Rattle.leaf_journal.specs.Signing.{Signs}
use Rattle.evidence.specs.Uses.{reuse_of, uses}

-- the top key is none of those below its leaves, and no two leaves have one key below them
pub record AllDiffer (top : one.Secret) (below : Below) : Type 0 where
  pub top_other : (t : ℕ) → t < 2 ^ height top.lms → bytes_of top ≢ bytes_of (bottom_of top.i top.seed below t)
  pub each_other : (t u : ℕ) → t < 2 ^ height top.lms → u < 2 ^ height top.lms
      → bytes_of (bottom_of top.i top.seed below t) ≡ bytes_of (bottom_of top.i top.seed below u) → t ≡ u

abbrev pub DifferBelow : one.Secret → Option Below → Type 0
DifferBelow top None = Unit {0}
DifferBelow top (Some below) = AllDiffer top below

abbrev pub KeysDiffer : Secret → Type 0
KeysDiffer secret = DifferBelow secret.top secret.below

-- two of the leaves that were released, in whatever order
pub record AreTwoOf (leaves : List ℕ) (g k : ℕ) : Type 0 where
  pub first : ℕ
  pub second : ℕ
  pub apart : first ≢ second
  pub is_first : slice_get leaves first ≡ Some g
  pub is_second : slice_get leaves second ≡ Some k

-- the signature of a message with a leaf of the key, as a signer gives it out
pub record IsGivenOut (secret : Secret) (message : List ℕ) (g : ℕ) (s : List ℕ) : Type 0 where
  pub within : g < 2 ^ height_of secret
  pub signs : Signs secret message g s

-- two signatures with leaves that one key run released, for a key file whose keys all differ, are never a reuse
abbrev pub HonestClean : {S : Type 0} → (S → ℕ → Type 0) → Type 0
HonestClean {S} U =
    (start : S) (events : List (Event S)) (file : List ℕ) (secret : Secret) (g k : ℕ) (m n s t : List ℕ)
    → IsKeyRun U start events → AreTwoOf (released_in events) g k → IsKeyFile file secret → KeysDiffer secret
    → IsGivenOut secret m g s → IsGivenOut secret n k t
    → reuse_of (uses (public_bytes secret) m s) (uses (public_bytes secret) n t) ≡ None
