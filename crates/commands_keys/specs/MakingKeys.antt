-- What each outcome of `key-gen` means.
use Rattle.std.specs.Prelude.{◌≡◌, ◌⊎◌, ◌<◌, ◌≤◌, ◌+◌, ℕ, List, [], length, Option, None, Some, Result, Ok, Err}
use Rattle.std.specs.Prelude.{option_map}
use Rattle.octets.specs.Content.{GainsPart, with_end, with_front}
use Rattle.edge_io.specs.Disk.{IsKept}
use Rattle.edge_io.specs.declared.disks.Disk as disk
use Rattle.lmots.specs.declared.ots_type.OtsType.{OtsType}
use Rattle.lms_keys.specs.HssSecret.{Secret, public_bytes}
use Rattle.lms_keys.specs.LmsType.{height}
use Rattle.lms_keys.specs.declared.lms_type.LmsType.{LmsType}
use Rattle.leaf_journal.specs.KeyFile.{IsNewKeyFile}
use Rattle.leaf_journal.specs.Making.{IsSpared, size_of}
use Rattle.leaf_journal.specs.declared.faults.CreateFault.{CreateFault}
use Rattle.leaf_journal.specs.declared.faults.CreateFault.TheVariants as create
use Rattle.worlds.specs.declared.ending.Ending.{Ending}
use Rattle.worlds.specs.declared.ending.Ending.TheVariants.{Done, Refused}
use Rattle.worlds.specs.declared.ending.Part.TheVariants as part
use Rattle.worlds.specs.declared.ending.Refusal.TheVariants as refusal
use Rattle.commands_keys.specs.KeyLines.{key_line}
use Rattle.commands_keys.specs.declared.making_keys.KeyGenFault.{KeyGenFault}
use Rattle.commands_keys.specs.declared.making_keys.KeyGenFault.TheVariants.{NotEmpty, EntropyFailed, DiskFailed}
use Rattle.commands_keys.specs.declared.making_keys.KeyGenFault.TheVariants.{SinkFailed, Memory}

-- how the program ends
abbrev pub key_gen_ending : Result (Unit {0}) KeyGenFault → Ending
key_gen_ending (Ok done) = Done
key_gen_ending (Err NotEmpty) = Refused refusal.NotEmpty
key_gen_ending (Err EntropyFailed) = Refused (refusal.Fault part.Entropy)
key_gen_ending (Err DiskFailed) = Refused (refusal.Fault part.Disk)
key_gen_ending (Err SinkFailed) = Refused (refusal.Fault part.Sink)
key_gen_ending (Err Memory) = Refused refusal.Memory

-- the key of these types: with two levels where the type of the trees below is told
abbrev pub secret_of : LmsType → OtsType → Option LmsType → List ℕ → List ℕ → Secret
secret_of lms ots bottom i seed = record {
  top = record { lms = lms; ots = ots; i = i; seed = seed };
  below = option_map (λ height. record { lms = height; ots = ots }) bottom;
}

-- the heights add up to at most 15
abbrev pub IsLow : LmsType → Option LmsType → Type 0
IsLow lms None = height lms ≤ 15
IsLow lms (Some bottom) = height lms + height bottom ≤ 15

module _ {D : Type 0} (disk_of : disk.Ghosts D) (old new : D) where
  -- the disk held nothing, and a crash leaves the new key file and nothing else
  pub record IsFiled (key : Secret) : Type 0 where
    pub was : (file : List ℕ) → disk_of.seen new ≡ Some file → disk_of.seen old ≡ Some []
    pub file : (file : List ℕ) → disk_of.seen new ≡ Some file → IsNewKeyFile key file
    pub only : (c : List ℕ) → disk_of.may_leave new c → IsNewKeyFile key c
    pub one : (a b : List ℕ) → disk_of.may_leave new a → disk_of.may_leave new b → a ≡ b

  abbrev pub IsUnmade : Type 0
  IsUnmade = IsKept (disk_of.seen old) (disk_of.seen new) (disk_of.may_leave old) (disk_of.may_leave new)

  -- why this key was not made, and what is left of the disk
  abbrev pub WhyUnmade : Secret → CreateFault → Type 0
  WhyUnmade key create.TooTall = ⊥
  WhyUnmade key (create.NotEmpty len) = IsUnmade × ((file : List ℕ) → disk_of.seen new ≡ Some file → 0 < length file)
  WhyUnmade key create.Disk = IsSpared disk_of old new (size_of key)
  WhyUnmade key create.Memory = IsUnmade

-- an identifier of 16 bytes was drawn, and nothing else, or nothing
abbrev pub DrewPart : Option (List ℕ) → Option (List ℕ) → Type 0
DrewPart left left_now = (left_now ≡ left) ⊎ ((i : List ℕ) × (length i ≡ 16) × (left ≡ with_front i left_now))

module _ {D : Type 0} (disk_of : disk.Ghosts D) (lms : LmsType) (ots : OtsType) (bottom : Option LmsType)
    (left left_now : Option (List ℕ)) (old new : D) where
  -- an identifier of 16 bytes was drawn, then a seed of 32, and nothing else
  pub record Draws (i seed : List ℕ) : Type 0 where
    pub i_long : length i ≡ 16
    pub seed_long : length seed ≡ 32
    pub drawn : left ≡ with_front i (with_front seed left_now)

  abbrev pub DrewBoth : Type 0
  DrewBoth = (i : List ℕ) × (seed : List ℕ) × Draws i seed

  -- they were drawn, and their key was not made: the disk is as it was, or it held nothing and has a part of the file
  pub record IsHalfMade : Type 0 where
    pub i : List ℕ
    pub seed : List ℕ
    pub draws : Draws i seed
    pub spared : IsSpared disk_of old new (size_of (secret_of lms ots bottom i seed))

  -- the key of these types was made of what was drawn
  pub record IsMade (key : Secret) : Type 0 where
    pub i : List ℕ
    pub seed : List ℕ
    pub is : key ≡ secret_of lms ots bottom i seed
    pub draws : Draws i seed
    pub filed : IsFiled disk_of old new key

  -- a key was made and told; or why not, and what is left of it
  abbrev pub KeyGenEnds : Option (List ℕ) → Option (List ℕ) → Result (Unit {0}) KeyGenFault → Type 0
  KeyGenEnds printed printed_now (Ok done) = (key : Secret) × IsMade key
      × (printed_now ≡ with_end printed (key_line (public_bytes key)))
  KeyGenEnds printed printed_now (Err NotEmpty) =
      IsUnmade disk_of old new × (printed_now ≡ printed)
      × ((file : List ℕ) → disk_of.seen new ≡ Some file → 0 < length file) × DrewBoth
  KeyGenEnds printed printed_now (Err EntropyFailed) = (new ≡ old) × (printed_now ≡ printed) × DrewPart left left_now
  KeyGenEnds printed printed_now (Err DiskFailed) = (printed_now ≡ printed) × IsHalfMade
  KeyGenEnds printed printed_now (Err SinkFailed) = (key : Secret) × IsMade key
      × GainsPart printed printed_now (key_line (public_bytes key))
  KeyGenEnds printed printed_now (Err Memory) = IsUnmade disk_of old new × (printed_now ≡ printed)
      × ((left_now ≡ left) ⊎ DrewBoth)
