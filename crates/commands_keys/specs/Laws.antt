-- The laws of these commands: one outcome at most, and what is told is that one.
use Rattle.std.specs.Prelude.{◌≡◌, ◌⊎◌, ℕ, Bool, List, Option, Some, Result}
use Rattle.edge_io.specs.declared.disks.Disk as disk
use Rattle.worlds.specs.Endings.{IsStopped}
use Rattle.lmots.specs.declared.ots_type.OtsType.{OtsType}
use Rattle.lms_keys.specs.declared.lms_type.LmsType.{LmsType}
use Rattle.commands_keys.specs.Contents.{KeyGenComes, SealComes}
use Rattle.commands_keys.specs.MakingKeys.{KeyGenEnds, key_gen_ending}
use Rattle.commands_keys.specs.Sealing.{SealEnds, seal_ending}
use Rattle.commands_keys.specs.declared.making_keys.KeyGenFault.{KeyGenFault}
use Rattle.commands_keys.specs.declared.sealing.SealFault.{SealFault}

-- each command comes to one outcome at most
pub record OneOfKeys : Type 0 where
  pub key_gen : (file : List ℕ) (a b : Result (Unit {0}) KeyGenFault) → KeyGenComes file a → KeyGenComes file b → a ≡ b
  pub seal : (add : Bool) (bytes file : List ℕ) (a b : Result (Unit {0}) SealFault) → SealComes add bytes file a
      → SealComes add bytes file b → a ≡ b

-- what ended is what the command comes to, or it stopped
pub record TellsOfKeys {D : Type 0} (disk_of : disk.Ghosts D) : Type 0 where
  pub key_gen : (lms : LmsType) (ots : OtsType) (bottom : Option LmsType) (left left_now : Option (List ℕ))
      (file now : List ℕ) (old new : D) (printed printed_now : Option (List ℕ))
      (outcome : Result (Unit {0}) KeyGenFault)
      → disk_of.seen old ≡ Some file → disk_of.seen new ≡ Some now
      → KeyGenEnds disk_of lms ots bottom left left_now old new printed printed_now outcome → KeyGenComes file outcome
      ⊎ IsStopped (key_gen_ending outcome)
  pub seal : (add : Bool) (left_now : Option (List ℕ)) (bytes file now : List ℕ) (old new : D)
      (printed printed_now : Option (List ℕ)) (outcome : Result (Unit {0}) SealFault)
      → disk_of.seen old ≡ Some file → disk_of.seen new ≡ Some now
      → SealEnds disk_of add (Some bytes) left_now old new printed printed_now outcome
      → SealComes add bytes file outcome ⊎ IsStopped (seal_ending outcome)
