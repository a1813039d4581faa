-- What `demo` does to the objects outside, and what it comes to over what they hold.
use Rattle.std.specs.Prelude.{ℕ, Result}
use Rattle.judging.specs.declared.verdicts.Verdict.{Verdict}
use Rattle.entry_rules.specs.declared.faults.Fault.{Fault}
use Rattle.worlds.specs.Counts.{Ended}
use Rattle.worlds.specs.declared.ending.Ending.{Ending}
use Rattle.worlds.specs.Running.{Runs}
use Rattle.worlds.specs.Telling.{Content, TellsEnding}
use Rattle.worlds.specs.Touching.{on_store}
use Rattle.worlds.specs.Worlds.{Types, Ways, World}
use Rattle.demo.specs.Contents.{DemoComes}
use Rattle.demo.specs.Demos.{DemoEnds, demo_ending}
use Rattle.demo.specs.declared.running.DemoFault.{DemoFault}

module _ {types : Types} (ways : Ways types) (n : ℕ) where
  -- what an outcome means
  abbrev pub DemoMeans : World types → World types → Result (Verdict Fault) DemoFault → Type 0
  DemoMeans before after =
      DemoEnds n ways.keeper before.keeper after.keeper (ways.sink.contents before.sink) (ways.sink.contents after.sink)

  -- it ran to this ending
  abbrev pub DemoRuns : World types → World types → Ending → Type 0
  DemoRuns before after ending = Runs ways demo_ending (DemoMeans before after) on_store before after ending

-- what it comes to
abbrev pub DemoAnswers : ℕ → Content → Ending → Type 0
DemoAnswers n content = Ended demo_ending (DemoComes n content.held)

-- where the touched objects tell, what ended is what it comes to, or it stopped
pub record TellsOfWorld {types : Types} (ways : Ways types) : Type 0 where
  pub demo : (n : ℕ) → TellsEnding ways on_store (DemoRuns ways n) (DemoAnswers n)
