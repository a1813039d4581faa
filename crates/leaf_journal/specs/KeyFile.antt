-- The key file: a header, and a byte for each leaf.
use Rattle.std.specs.Prelude.{◌≡◌, ◌≢◌, ◌+◌, ◌^◌, ◌≤◌, ℕ, if◌then◌else◌, List, length, take, drop, codes, slice_index}
use Rattle.std.specs.Prelude.{Option, None, Some}
use Rattle.std.specs.Str.{bytes_eq}
use Rattle.lmots.specs.OtsType as one_time
use Rattle.lms_keys.specs.LmsType.{code}
use Rattle.lms_keys.specs.PublicKey.{number_in}
use Rattle.lms_keys.specs.Secret as one
use Rattle.lms_keys.specs.HssSecret.{Secret, height_of}
use Rattle.lms_keys.specs.declared.below.Below.{Below}

-- ---- the header
abbrev pub magic_of : Option Below → List ℕ
magic_of None = codes "LMSKEY01"
magic_of (Some below) = codes "LMSKEY02"

-- the place of the first leaf's byte: behind 64 bytes, or 72 with two levels
abbrev pub start_of : Option Below → ℕ
start_of None = 64
start_of (Some below) = 72

-- the 64 bytes at the front: the magic; the LMS type and the one-time type of the key on top, as u32 by the codes of
-- RFC
-- 8554; its identifier, which the RFC calls I; and its seed
pub record HasTop (magic file : List ℕ) (top : one.Secret) : Type 0 where
  pub magic_is : take 8 file ≡ magic
  pub lms : number_in file 8 ≡ code top.lms
  pub ots : number_in file 12 ≡ one_time.code top.ots
  pub i : take 16 (drop 16 file) ≡ top.i
  pub seed : take 32 (drop 32 file) ≡ top.seed

-- with two levels the 8 bytes behind them: the LMS type and the one-time type of the keys below
abbrev pub HasBelow : List ℕ → Option Below → Type 0
HasBelow file None = Unit {0}
HasBelow file (Some below) = (number_in file 64 ≡ code below.lms) × (number_in file 68 ≡ one_time.code below.ots)

-- the header of a key whose heights add up to at most 15
pub record IsHeader (file : List ℕ) (secret : Secret) : Type 0 where
  pub long : start_of secret.below ≤ length file
  pub top : HasTop (magic_of secret.below) file secret.top
  pub below : HasBelow file secret.below
  pub low : height_of secret ≤ 15

-- ---- the file
-- the file is one of this key
pub record IsKeyFile (file : List ℕ) (secret : Secret) : Type 0 where
  pub header : IsHeader file secret
  pub size : length file ≡ start_of secret.below + 2 ^ height_of secret

-- where the leaves of a file begin, by its magic
abbrev pub start_in : List ℕ → ℕ
start_in file = if bytes_eq (take 8 file) (codes "LMSKEY02") then 72 else 64

-- the byte of the leaf is not zero
abbrev pub Used : List ℕ → ℕ → Type 0
Used file q = slice_index file (start_in file + q) ≢ 0

-- in a file whose leaves begin there, the leaf is used
pub record IsUsedFrom (start : ℕ) (file : List ℕ) (q : ℕ) : Type 0 where
  pub begins : start_in file ≡ start
  pub used : Used file q

abbrev pub UsedFrom : ℕ → (List ℕ → Type 0) → ℕ → Type 0
UsedFrom start images q = (c : List ℕ) → images c → IsUsedFrom start c q

-- the leaf is used in each of these files, whose leaves begin at one place
pub record UsedInAll (images : List ℕ → Type 0) (q : ℕ) : Type 0 where
  pub start : ℕ
  pub all : UsedFrom start images q

-- each leaf that was used in all of these is used
abbrev pub KeepsUsed : (List ℕ → Type 0) → List ℕ → Type 0
KeepsUsed images file = (start q : ℕ) → UsedFrom start images q → IsUsedFrom start file q

-- a file of this key of which no leaf is used
pub record IsNewKeyFile (secret : Secret) (file : List ℕ) : Type 0 where
  pub is : IsKeyFile file secret
  pub unused : (q : ℕ) → slice_index file (start_of secret.below + q) ≡ 0

-- there are 64 bytes at the front, and they are the header of no key
pub record HasNoHeader (file : List ℕ) : Type 0 where
  pub long : 64 ≤ length file
  pub none : (secret : Secret) → IsHeader file secret → ⊥

-- a header is there, and the file has not the length that its leaves need
pub record HasOtherLength (file : List ℕ) : Type 0 where
  pub secret : Secret
  pub header : IsHeader file secret
  pub other : length file ≢ start_of secret.below + 2 ^ height_of secret
