-- What an ending means where the objects that the command touches tell what they hold.
use Rattle.std.proofs.Common.{ℕ}
use Rattle.std.specs.Prelude.{Result}
use Rattle.judging.specs.declared.verdicts.Verdict.{Verdict}
use Rattle.entry_rules.specs.declared.faults.Fault.{Fault}
use Rattle.worlds.proofs.Lifted.{told_ending}
use Rattle.worlds.specs.Telling.{TellsEnding}
use Rattle.worlds.specs.Touching.{on_store}
use Rattle.worlds.specs.Worlds.{Types, Ways}
use Rattle.demo.specs.Contents.{DemoComes}
use Rattle.demo.specs.Demos.{demo_ending}
use Rattle.demo.specs.Laws.{TellsOfDemo}
use Rattle.demo.specs.Runs.{DemoAnswers, DemoMeans, DemoRuns, TellsOfWorld}
use Rattle.demo.specs.declared.running.DemoFault.{DemoFault}

module _ {types : Types} (ways : Ways types) where
  shown : TellsOfDemo ways.keeper → (n : ℕ) → TellsEnding ways on_store (DemoRuns ways n) (DemoAnswers n)
  shown law n before after content ending tells runs =
      told_ending demo_ending (DemoMeans ways n before after) (DemoComes n content.held)
      (λ (outcome : Result (Verdict Fault) DemoFault) means.
      law.demo n content.held tells.store.now before.keeper after.keeper (ways.sink.contents before.sink) (ways.sink.contents after.sink) outcome
      tells.store.held tells.store.holds means)
      ending runs.ended

  pub told : TellsOfDemo ways.keeper → TellsOfWorld ways
  told law = record { demo = shown law }
