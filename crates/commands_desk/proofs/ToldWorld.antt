-- What an ending means where the objects that the command touches tell what they hold.
use Rattle.std.proofs.Common.{◌⊎◌, inl, inr, ℕ, List, refl, subst}
use Rattle.std.specs.Prelude.{Option, Some, Result, Ok, Err}
use Rattle.git_object.specs.Repository.{Repository}
use Rattle.worlds.proofs.Lifted.{told_ending}
use Rattle.worlds.specs.Endings.{IsStopped}
use Rattle.worlds.proofs.StillHeld.{still_held}
use Rattle.worlds.specs.Worlds.{Types, Ways}
use Rattle.commands_desk.specs.Laws.{ServeComes}
use Rattle.commands_desk.specs.Readying.{ServeEnds, serve_ending}
use Rattle.commands_desk.specs.Runs.{ServeMeans, TellsOfWorld}
use Rattle.commands_desk.specs.declared.readying.ServeFault.{ServeFault}
use Rattle.commands_desk.specs.declared.readying.ServeFault.TheVariants.{LogBroken, KeeperFailed, SinkFailed, Memory}

told_serve : (was : Repository) (printed printed_now : Option (List ℕ)) (outcome : Result ℕ ServeFault) → ServeEnds (Some was) printed printed_now outcome
    → ServeComes was outcome ⊎ IsStopped (serve_ending outcome)
told_serve was printed printed_now (Ok count) ends = inl (ends.told was refl)
told_serve was printed printed_now (Err (LogBroken id)) ends = inl (ends.told was refl)
told_serve was printed printed_now (Err KeeperFailed) ends = inr tt
told_serve was printed printed_now (Err SinkFailed) ends = inr tt
told_serve was printed printed_now (Err Memory) ends = inr tt

module _ {types : Types} (ways : Ways types) where
  pub told : TellsOfWorld ways
  told before after content ending tells runs =
      let held = still_held ways before after content tells.store runs.1 in
      told_ending serve_ending (ServeMeans ways before after) (ServeComes content.held)
      (λ (outcome : Result ℕ ServeFault) means.
      told_serve content.held (ways.sink.contents before.sink) (ways.sink.contents after.sink) outcome
      (subst (λ (o : Option Repository). ServeEnds o (ways.sink.contents before.sink) (ways.sink.contents after.sink) outcome) held means))
      ending runs.0.ended
