-- What an ending means where the objects that the command touches tell what they hold.
use Rattle.std.proofs.Common.{ℕ, List, subst}
use Rattle.std.specs.Prelude.{Option, Result}
use Rattle.git_object.specs.Repository.{Repository}
use Rattle.worlds.proofs.Lifted.{told_ending}
use Rattle.worlds.proofs.StillHeld.{still_held}
use Rattle.worlds.specs.Telling.{TellsEnding}
use Rattle.worlds.specs.Touching.{on_store}
use Rattle.worlds.specs.Worlds.{Types, Ways}
use Rattle.global_verdicts.specs.declared.verdicts.GlobalVerdict.{GlobalVerdict}
use Rattle.commands_verify.specs.GlobalContents.{GlobalComes}
use Rattle.commands_verify.specs.GlobalLaws.{TellsOfGlobal}
use Rattle.commands_verify.specs.GlobalRuns.{GlobalAnswered, GlobalMeans, GlobalRuns, TellsOfWorld}
use Rattle.commands_verify.specs.GlobalVerifying.{GlobalEnds, global_ending}
use Rattle.commands_verify.specs.declared.global_verifying.VerifyFault.{VerifyFault}

module _ {types : Types} (ways : Ways types) where
  judged : TellsOfGlobal → (name : List ℕ) (root : Option (List (List ℕ))) → TellsEnding ways on_store (GlobalRuns ways name root) (GlobalAnswered name root)
  judged law name root before after content ending tells runs =
      let held = still_held ways before after content tells.store runs.1 in
      told_ending global_ending (GlobalMeans ways name root before after) (GlobalComes name root content.held)
      (λ (outcome : Result GlobalVerdict VerifyFault) means.
      law.global name root content.held (ways.sink.contents before.sink) (ways.sink.contents after.sink) outcome
      (subst (λ (o : Option Repository). GlobalEnds name root o (ways.sink.contents before.sink) (ways.sink.contents after.sink) outcome) held means))
      ending runs.0.ended

  pub told : TellsOfGlobal → TellsOfWorld ways
  told law = record { global = judged law }
