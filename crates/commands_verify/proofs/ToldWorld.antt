-- What an ending means where the objects that the command touches tell what they hold.
use Rattle.std.proofs.Common.{ℕ, Bool, List, subst}
use Rattle.std.specs.Prelude.{Option, Result}
use Rattle.worlds.proofs.Lifted.{told_ending}
use Rattle.worlds.specs.Telling.{TellsEnding}
use Rattle.worlds.specs.Touching.{on_stream}
use Rattle.worlds.specs.Worlds.{Types, Ways}
use Rattle.commands_verify.specs.Contents.{VerifyComes}
use Rattle.commands_verify.specs.Laws.{TellsOfVerify}
use Rattle.commands_verify.specs.Runs.{TellsOfWorld, VerifyAnswers, VerifyMeans, VerifyRuns}
use Rattle.commands_verify.specs.Verdicts.{RefVerdict}
use Rattle.commands_verify.specs.Verifying.{VerifyEnds, verify_ending}
use Rattle.commands_verify.specs.declared.verifying.VerifyFault.{VerifyFault}

module _ {types : Types} (ways : Ways types) where
  verified : TellsOfVerify ways.keeper → (name : List ℕ) (root : Option (List (List ℕ))) (stdin : Bool)
      → TellsEnding ways on_stream (VerifyRuns ways name root stdin) (VerifyAnswers name root stdin)
  verified law name root stdin before after content ending tells runs =
      told_ending verify_ending (VerifyMeans ways name root stdin before after) (VerifyComes name root stdin content.held content.bytes)
      (λ (outcome : Result RefVerdict VerifyFault) means.
      law.verify name root stdin content.bytes (ways.source.left after.source) content.held tells.store.now before.keeper after.keeper
      (ways.sink.contents before.sink) (ways.sink.contents after.sink) outcome tells.store.held tells.store.holds
      (subst (λ (l : Option (List ℕ)). VerifyEnds name root stdin ways.keeper l (ways.source.left after.source) before.keeper after.keeper
      (ways.sink.contents before.sink) (ways.sink.contents after.sink) outcome) tells.source means))
      ending runs.0.ended

  pub told : TellsOfVerify ways.keeper → TellsOfWorld ways
  told law = record { verify = verified law }
