-- What each command does to the objects outside, and what it comes to over what they hold.
use Rattle.std.specs.Prelude.{Bool, Option, Result}
use Rattle.lmots.specs.declared.ots_type.OtsType.{OtsType}
use Rattle.lms_keys.specs.declared.lms_type.LmsType.{LmsType}
use Rattle.worlds.specs.Counts.{Ended}
use Rattle.worlds.specs.declared.ending.Ending.{Ending}
use Rattle.worlds.specs.Running.{KeepsLeaves, Runs}
use Rattle.worlds.specs.Telling.{Content, TellsEnding}
use Rattle.worlds.specs.Touching.{on_key, on_new_key}
use Rattle.worlds.specs.Worlds.{Types, Ways, World}
use Rattle.commands_keys.specs.Contents.{KeyGenComes, SealComes}
use Rattle.commands_keys.specs.MakingKeys.{KeyGenEnds, key_gen_ending}
use Rattle.commands_keys.specs.Sealing.{SealEnds, seal_ending}
use Rattle.commands_keys.specs.declared.making_keys.KeyGenFault.{KeyGenFault}
use Rattle.commands_keys.specs.declared.sealing.SealFault.{SealFault}

module _ {types : Types} (ways : Ways types) where
  -- what an outcome of `key-gen` means
  abbrev pub KeyGenMeans : LmsType → OtsType → Option LmsType → World types → World types
      → Result (Unit {0}) KeyGenFault → Type 0
  KeyGenMeans lms ots bottom before after =
      KeyGenEnds ways.disk lms ots bottom (ways.entropy.left before.entropy) (ways.entropy.left after.entropy)
      before.disk after.disk (ways.sink.contents before.sink) (ways.sink.contents after.sink)

  -- it ran to this ending, and at every moment no used leaf was lost
  abbrev pub KeyGenRuns : LmsType → OtsType → Option LmsType → World types → World types → Ending → Type 0
  KeyGenRuns lms ots bottom before after ending =
      Runs ways key_gen_ending (KeyGenMeans lms ots bottom before after) on_new_key before after ending
      × KeepsLeaves ways before after

  -- what an outcome of `seal` means
  abbrev pub SealMeans : Bool → World types → World types → Result (Unit {0}) SealFault → Type 0
  SealMeans add before after =
      SealEnds ways.disk add (ways.source.left before.source) (ways.source.left after.source) before.disk after.disk
      (ways.sink.contents before.sink) (ways.sink.contents after.sink)

  -- it ran to this ending, and at every moment no used leaf was lost
  abbrev pub SealRuns : Bool → World types → World types → Ending → Type 0
  SealRuns add before after ending =
      Runs ways seal_ending (SealMeans add before after) on_key before after ending × KeepsLeaves ways before after

-- what `key-gen` comes to
abbrev pub KeyGenAnswers : Content → Ending → Type 0
KeyGenAnswers content = Ended key_gen_ending (KeyGenComes content.file)

-- what `seal` comes to
abbrev pub SealAnswers : Bool → Content → Ending → Type 0
SealAnswers add content = Ended seal_ending (SealComes add content.bytes content.file)

-- where the touched objects tell, what ended is what the command comes to, or it stopped
pub record TellsOfWorld {types : Types} (ways : Ways types) : Type 0 where
  pub key_gen : (lms : LmsType) (ots : OtsType) (bottom : Option LmsType)
      → TellsEnding ways on_new_key (KeyGenRuns ways lms ots bottom) KeyGenAnswers
  pub seal : (add : Bool) → TellsEnding ways on_key (SealRuns ways add) (SealAnswers add)
