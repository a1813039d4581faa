-- What `serve` does to the objects outside before a desk is opened, and what it comes to over what they hold.
use Rattle.std.specs.Prelude.{ℕ, Result}
use Rattle.keeper_api.specs.Undisturbed.{Undisturbed}
use Rattle.worlds.specs.Counts.{Ended}
use Rattle.worlds.specs.declared.ending.Ending.{Ending}
use Rattle.worlds.specs.Running.{Runs}
use Rattle.worlds.specs.Telling.{Content, TellsEnding}
use Rattle.worlds.specs.Touching.{on_store}
use Rattle.worlds.specs.Worlds.{Types, Ways, World}
use Rattle.commands_desk.specs.Laws.{ServeComes}
use Rattle.commands_desk.specs.Readying.{ServeEnds, serve_ending}
use Rattle.commands_desk.specs.declared.readying.ServeFault.{ServeFault}

module _ {types : Types} (ways : Ways types) where
  -- what an outcome means
  abbrev pub ServeMeans : World types → World types → Result ℕ ServeFault → Type 0
  ServeMeans before after =
      ServeEnds (ways.keeper.content after.keeper) (ways.sink.contents before.sink) (ways.sink.contents after.sink)

  -- it ran to this ending, and the store, with what a stop may leave of it, is as it was
  abbrev pub ServeRuns : World types → World types → Ending → Type 0
  ServeRuns before after ending =
      Runs ways serve_ending (ServeMeans before after) on_store before after ending
      × Undisturbed ways.keeper before.keeper after.keeper

-- what it comes to
abbrev pub ServeAnswers : Content → Ending → Type 0
ServeAnswers content = Ended serve_ending (ServeComes content.held)

-- where the touched objects tell, what ended is what the command comes to, or it stopped
abbrev pub TellsOfWorld : {types : Types} → Ways types → Type 0
TellsOfWorld ways = TellsEnding ways on_store (ServeRuns ways) ServeAnswers
