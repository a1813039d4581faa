-- A key whose journal is in memory, and how often each of the three signed.
use Rattle.std.specs.Prelude.{◌≡◌, ◌+◌, ◌<◌, ◌≤◌, ◌==◌, ℕ, List, Option, Some, None, length, slice_index, if◌then◌else◌}
use Rattle.lms_keys.specs.Secret.{Secret}
use Rattle.lms_keys.specs.declared.lms_type.LmsType.TheVariants.{H10}
use Rattle.leaf_journal.specs.Signing.{Covers, IsMarked, Signing}

-- a key, and how many of its leaves, the first ones, are used
pub record Journaled : Type 0 where
  pub secret : Secret
  pub used : ℕ

-- a signer of one level with 1,024 leaves, of which so many first ones are marked; what its disk tells is a key file in
-- which no other leaf is used
pub record IsJournal (signer : Signing) (seen : Option (List ℕ)) (used : ℕ) : Type 0 where
  pub lms : signer.secret.top.lms ≡ H10
  pub one_level : signer.secret.below ≡ None
  pub long : length signer.marks ≡ 1024
  pub within : used ≤ 1024
  pub marked : (q : ℕ) → q < used → IsMarked signer.marks q
  pub free : (q : ℕ) → used ≤ q → slice_index signer.marks q ≡ 0
  pub covers : (file : List ℕ) → seen ≡ Some file → Covers signer file

-- how often each of the three keys signed
pub record Uses : Type 0 where
  pub zeroth : ℕ
  pub first : ℕ
  pub second : ℕ

-- how often the key of a number signed: the leaf that it signs with next
abbrev pub uses_of : ℕ → Uses → ℕ
uses_of k uses = if k == 0 then uses.zeroth else if k == 1 then uses.first else uses.second

-- once more by the key of a number
abbrev pub with_use : ℕ → Uses → Uses
with_use k uses =
    if k == 0 then record uses { zeroth = uses.zeroth + 1 } else if k == 1 then record uses { first = uses.first + 1 }
    else record uses { second = uses.second + 1 }
