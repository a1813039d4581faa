-- What an ending means where the objects that a command touches tell what they hold.
use Rattle.std.proofs.Common.{ℕ, List, subst}
use Rattle.std.specs.Prelude.{Option, Result}
use Rattle.git_object.specs.Repository.{Repository}
use Rattle.ref_patterns.specs.declared.space.Space.{Space}
use Rattle.worlds.proofs.Lifted.{told_ending}
use Rattle.worlds.proofs.StillHeld.{still_held}
use Rattle.worlds.specs.Telling.{TellsEnding}
use Rattle.worlds.specs.Touching.{on_log, on_store}
use Rattle.worlds.specs.Worlds.{Types, Ways}
use Rattle.commands_log.specs.declared.faults.LogCommandFault.{LogCommandFault}
use Rattle.commands_policy.specs.Explaining.{ExplainEnds, explain_ending}
use Rattle.commands_policy.specs.Outcomes.{ApplyComes, ExplainComes, TellsOfPolicy, apply_ending}
use Rattle.commands_policy.specs.Runs.{ApplyAnswers, ApplyMeans, ApplyRuns, ExplainAnswers, ExplainMeans, ExplainRuns, TellsOfWorld}
use Rattle.commands_policy.specs.declared.applying.ApplyFault.{ApplyFault}

module _ {types : Types} (ways : Ways types) where
  applied : TellsOfPolicy ways.keeper ways.disk → TellsEnding ways on_log (ApplyRuns ways) ApplyAnswers
  applied law before after content ending tells runs =
      told_ending apply_ending (ApplyMeans ways before after) (ApplyComes content.file content.held)
      (λ (outcome : Result (Unit {0}) ApplyFault) means.
      law.applied (ways.clock.left before.clock) (ways.clock.left after.clock) content.held tells.store.now content.file tells.disk.now
      before.keeper after.keeper before.disk after.disk (ways.sink.contents before.sink) (ways.sink.contents after.sink) outcome
      tells.store.held tells.store.holds tells.disk.held tells.disk.holds means)
      ending runs.0.ended

  explained : TellsOfPolicy ways.keeper ways.disk → (space : Space) (text : List ℕ)
      → TellsEnding ways on_store (ExplainRuns ways space text) ExplainAnswers
  explained law space text before after content ending tells runs =
      let held = still_held ways before after content tells.store runs.1 in
      told_ending explain_ending (ExplainMeans ways space text before after) (ExplainComes content.held)
      (λ (outcome : Result (Unit {0}) LogCommandFault) means.
      law.explained content.held (ways.sink.contents before.sink) (ways.sink.contents after.sink) (record { space = space; text = text }) outcome
      (subst (λ (o : Option Repository). ExplainEnds o (ways.sink.contents before.sink) (ways.sink.contents after.sink)
      (record { space = space; text = text }) outcome) held means))
      ending runs.0.ended

  pub told : TellsOfPolicy ways.keeper ways.disk → TellsOfWorld ways
  told law = record { applied = applied law; explained = explained law }
