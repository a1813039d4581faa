-- What `push` does to the objects outside, and what it comes to over what they hold.
use Rattle.std.specs.Prelude.{ℕ, Result}
use Rattle.keeper_api.specs.Undisturbed.{Undisturbed}
use Rattle.worlds.specs.Counts.{Ended}
use Rattle.worlds.specs.declared.ending.Ending.{Ending}
use Rattle.worlds.specs.Running.{Runs}
use Rattle.worlds.specs.Telling.{Content, TellsEnding}
use Rattle.worlds.specs.Touching.{on_peer}
use Rattle.worlds.specs.Worlds.{Types, Ways, World}
use Rattle.commands_desk.specs.Contents.{PushComes}
use Rattle.commands_desk.specs.Faults.{push_ending}
use Rattle.commands_desk.specs.Pushing.{Passed, PushEnds, passed_by}
use Rattle.commands_desk.specs.declared.faults.PushFault.{PushFault}

module _ {types : Types} (ways : Ways types) where
  -- where a desk was asked, what it was given and came of it, and what was printed
  abbrev pub passed : World types → World types → Passed
  passed before after =
      passed_by (ways.peer.connected before.peer) (ways.peer.connected after.peer) (ways.peer.given before.peer)
      (ways.peer.given after.peer) (ways.peer.left before.peer) (ways.peer.left after.peer)
      (ways.sink.contents before.sink) (ways.sink.contents after.sink)

  -- what an outcome means
  abbrev pub PushMeans : ℕ → ℕ → World types → World types → Result (Unit {0}) PushFault → Type 0
  PushMeans port number before after = PushEnds port number (ways.keeper.content after.keeper) (passed before after)

  -- it ran to this ending, and the store, with what a stop may leave of it, is as it was
  abbrev pub PushRuns : ℕ → ℕ → World types → World types → Ending → Type 0
  PushRuns port number before after ending =
      Runs ways push_ending (PushMeans port number before after) on_peer before after ending
      × Undisturbed ways.keeper before.keeper after.keeper

-- what it comes to
abbrev pub PushAnswers : ℕ → Content → Ending → Type 0
PushAnswers number content = Ended push_ending (PushComes content.held content.come number)

-- where the touched objects tell, what ended is what the command comes to, or it stopped
abbrev pub TellsOfWorld : {types : Types} → Ways types → Type 0
TellsOfWorld ways = (port number : ℕ) → TellsEnding ways on_peer (PushRuns ways port number) (PushAnswers number)
