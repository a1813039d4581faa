-- What a key file says of its key, and why a file is not loaded.
use Rattle.std.specs.Prelude.{◌≡◌, ◌≤◌, ◌<◌, ◌⊎◌, ℕ, Bool, true, false, List, length, take, codes}
use Rattle.lms_keys.specs.HssSecret.{Secret}
use Rattle.leaf_journal.specs.KeyFile.{HasNoHeader, HasOtherLength}
use Rattle.leaf_journal.specs.declared.faults.LoadFault.{LoadFault}
use Rattle.leaf_journal.specs.declared.faults.LoadFault.TheVariants.{WrongLength, BadHeader, Disk, Memory}
use Rattle.leaf_journal.specs.declared.headers.Header.{Header}

-- what each refusal says of the file
abbrev pub WhyNotLoaded : LoadFault → List ℕ → Type 0
WhyNotLoaded (WrongLength len) file = (len ≡ length file) × ((length file < 64) ⊎ HasOtherLength file)
WhyNotLoaded BadHeader file = HasNoHeader file
WhyNotLoaded Disk file = Unit {0}
WhyNotLoaded Memory file = Unit {0}

-- the magic of a file of one level or of two
abbrev pub magic_for : Bool → List ℕ
magic_for false = codes "LMSKEY01"
magic_for true = codes "LMSKEY02"

-- the key with this header, identifier and seed
abbrev pub secret_with : Header → List ℕ → List ℕ → Secret
secret_with header i seed = record {
  top = record { lms = header.lms; ots = header.ots; i = i; seed = seed };
  below = header.below;
}

-- the bytes begin as the file does: with its first 64 bytes, and with its first 72 where it has so many
pub record Begins (head file : List ℕ) : Type 0 where
  pub top : take 64 head ≡ take 64 file
  pub below : 72 ≤ length file → take 72 head ≡ take 72 file
