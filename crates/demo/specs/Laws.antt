-- The laws of `demo`: one outcome at most, and what is told is what it comes to.
use Rattle.std.specs.Prelude.{◌≡◌, ◌⊎◌, ℕ, List, Option, Some, Result}
use Rattle.git_object.specs.Repository.{Repository}
use Rattle.keeper_api.specs.declared.keepers.Keeper as keeper
use Rattle.judging.specs.declared.verdicts.Verdict.{Verdict}
use Rattle.entry_rules.specs.declared.faults.Fault.{Fault}
use Rattle.worlds.specs.Endings.{IsStopped}
use Rattle.demo.specs.Contents.{DemoComes}
use Rattle.demo.specs.Demos.{DemoEnds, demo_ending}
use Rattle.demo.specs.declared.running.DemoFault.{DemoFault}

-- it comes to one outcome at most
pub record OneOfDemo : Type 0 where
  pub demo : (n : ℕ) (was : Repository) (a b : Result (Verdict Fault) DemoFault) → DemoComes n was a → DemoComes n was b
      → a ≡ b

-- what ended is what it comes to, or it stopped
pub record TellsOfDemo {R : Type 0} (keeper_of : keeper.Ghosts R) : Type 0 where
  pub demo : (n : ℕ) (was now : Repository) (old new : R) (printed printed_now : Option (List ℕ))
      (outcome : Result (Verdict Fault) DemoFault)
      → keeper_of.content old ≡ Some was → keeper_of.content new ≡ Some now
      → DemoEnds n keeper_of old new printed printed_now outcome → DemoComes n was outcome
      ⊎ IsStopped (demo_ending outcome)
