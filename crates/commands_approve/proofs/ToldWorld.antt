-- What an ending means where the objects that the command touches tell what they hold.
use Rattle.std.proofs.Common.{ℕ, List}
use Rattle.std.specs.Prelude.{Result}
use Rattle.worlds.proofs.Lifted.{told_ending}
use Rattle.worlds.specs.Telling.{TellsEnding}
use Rattle.worlds.specs.Touching.{on_log}
use Rattle.worlds.specs.Worlds.{Types, Ways}
use Rattle.commands_approve.specs.Outcomes.{ApproveComes, TellsOfApprovals, approve_ending}
use Rattle.commands_approve.specs.Runs.{ApproveAnswers, ApproveMeans, ApproveRuns, TellsOfWorld}
use Rattle.commands_approve.specs.declared.approving.ApproveFault.{ApproveFault}

module _ {types : Types} (ways : Ways types) where
  approved : TellsOfApprovals ways.keeper ways.disk → (name target : List ℕ)
      → TellsEnding ways on_log (ApproveRuns ways name target) (ApproveAnswers name target)
  approved law name target before after content ending tells runs =
      told_ending approve_ending (ApproveMeans ways name target before after) (ApproveComes name target content.file content.held)
      (λ (outcome : Result (Unit {0}) ApproveFault) means.
      law.approved name target (ways.clock.left before.clock) (ways.clock.left after.clock) content.held tells.store.now content.file tells.disk.now
      before.keeper after.keeper before.disk after.disk (ways.sink.contents before.sink) (ways.sink.contents after.sink) outcome
      tells.store.held tells.store.holds tells.disk.held tells.disk.holds means)
      ending runs.0.ended

  pub told : TellsOfApprovals ways.keeper ways.disk → TellsOfWorld ways
  told law = record { approved = approved law }
