-- What an ending means where the objects that a command touches tell what they hold.
use Rattle.std.proofs.Common.{ℕ, Bool, List, subst}
use Rattle.std.specs.Prelude.{Option, Result}
use Rattle.lmots.specs.declared.ots_type.OtsType.{OtsType}
use Rattle.lms_keys.specs.declared.lms_type.LmsType.{LmsType}
use Rattle.worlds.proofs.Lifted.{told_ending}
use Rattle.worlds.specs.Telling.{TellsEnding}
use Rattle.worlds.specs.Touching.{on_key, on_new_key}
use Rattle.worlds.specs.Worlds.{Types, Ways}
use Rattle.commands_keys.specs.Contents.{KeyGenComes, SealComes}
use Rattle.commands_keys.specs.Laws.{TellsOfKeys}
use Rattle.commands_keys.specs.MakingKeys.{key_gen_ending}
use Rattle.commands_keys.specs.Runs.{KeyGenAnswers, KeyGenMeans, KeyGenRuns, SealAnswers, SealMeans, SealRuns, TellsOfWorld}
use Rattle.commands_keys.specs.Sealing.{SealEnds, seal_ending}
use Rattle.commands_keys.specs.declared.making_keys.KeyGenFault.{KeyGenFault}
use Rattle.commands_keys.specs.declared.sealing.SealFault.{SealFault}

module _ {types : Types} (ways : Ways types) where
  made : TellsOfKeys ways.disk → (lms : LmsType) (ots : OtsType) (bottom : Option LmsType)
      → TellsEnding ways on_new_key (KeyGenRuns ways lms ots bottom) KeyGenAnswers
  made law lms ots bottom before after content ending tells runs =
      told_ending key_gen_ending (KeyGenMeans ways lms ots bottom before after) (KeyGenComes content.file)
      (λ (outcome : Result (Unit {0}) KeyGenFault) means.
      law.key_gen lms ots bottom (ways.entropy.left before.entropy) (ways.entropy.left after.entropy) content.file tells.disk.now
      before.disk after.disk (ways.sink.contents before.sink) (ways.sink.contents after.sink) outcome tells.disk.held tells.disk.holds means)
      ending runs.0.ended

  sealed : TellsOfKeys ways.disk → (add : Bool) → TellsEnding ways on_key (SealRuns ways add) (SealAnswers add)
  sealed law add before after content ending tells runs =
      told_ending seal_ending (SealMeans ways add before after) (SealComes add content.bytes content.file)
      (λ (outcome : Result (Unit {0}) SealFault) means.
      law.seal add (ways.source.left after.source) content.bytes content.file tells.disk.now before.disk after.disk
      (ways.sink.contents before.sink) (ways.sink.contents after.sink) outcome tells.disk.held tells.disk.holds
      (subst (λ (l : Option (List ℕ)). SealEnds ways.disk add l (ways.source.left after.source) before.disk after.disk
      (ways.sink.contents before.sink) (ways.sink.contents after.sink) outcome) tells.source means))
      ending runs.0.ended

  pub told : TellsOfKeys ways.disk → TellsOfWorld ways
  told law = record { key_gen = made law; seal = sealed law }
