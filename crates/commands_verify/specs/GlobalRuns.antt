-- What `verify-global` does to the objects outside, and what it comes to over what they hold.
use Rattle.std.specs.Prelude.{ℕ, List, Option, Result}
use Rattle.keeper_api.specs.Undisturbed.{Undisturbed}
use Rattle.worlds.specs.Counts.{Ended}
use Rattle.worlds.specs.declared.ending.Ending.{Ending}
use Rattle.worlds.specs.Running.{Runs}
use Rattle.worlds.specs.Telling.{Content, TellsEnding}
use Rattle.worlds.specs.Touching.{on_store}
use Rattle.worlds.specs.Worlds.{Types, Ways, World}
use Rattle.global_verdicts.specs.declared.verdicts.GlobalVerdict.{GlobalVerdict}
use Rattle.commands_verify.specs.GlobalContents.{GlobalComes}
use Rattle.commands_verify.specs.GlobalVerifying.{GlobalEnds, global_ending}
use Rattle.commands_verify.specs.declared.global_verifying.VerifyFault.{VerifyFault}

module _ {types : Types} (ways : Ways types) (name : List ℕ) (root : Option (List (List ℕ))) where
  -- what an outcome means
  abbrev pub GlobalMeans : World types → World types → Result GlobalVerdict VerifyFault → Type 0
  GlobalMeans before after =
      GlobalEnds name root (ways.keeper.content after.keeper) (ways.sink.contents before.sink)
      (ways.sink.contents after.sink)

  -- it ran to this ending, and the store is as it was
  abbrev pub GlobalRuns : World types → World types → Ending → Type 0
  GlobalRuns before after ending =
      Runs ways global_ending (GlobalMeans before after) on_store before after ending
      × Undisturbed ways.keeper before.keeper after.keeper

-- what it comes to
abbrev pub GlobalAnswered : List ℕ → Option (List (List ℕ)) → Content → Ending → Type 0
GlobalAnswered name root content = Ended global_ending (GlobalComes name root content.held)

-- where the touched objects tell, what ended is what it comes to, or it stopped
pub record TellsOfWorld {types : Types} (ways : Ways types) : Type 0 where
  pub global : (name : List ℕ) (root : Option (List (List ℕ)))
      → TellsEnding ways on_store (GlobalRuns ways name root) (GlobalAnswered name root)
