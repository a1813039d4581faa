-- A stream leaves what a shop stands for.
use Rattle.std.proofs.Common.{◌≡◌, ℕ, List, Some, None, refl, subst}
use Rattle.std.specs.Prelude.{Result}
use Rattle.octets.specs.Causes.{HasCause}
use Rattle.git_object.specs.Repository.{Repository}
use Rattle.keeper_api.specs.Undisturbed.{Undisturbed}
use Rattle.keeper_api.specs.declared.keepers.Keeper as keeper
use Rattle.desk_turns.specs.Histories.{History}
use Rattle.desk_core.specs.declared.desk_state.DeskState.{DeskState}
use Rattle.desk_turns.specs.Legal.{last}
use Rattle.desk_turns.specs.Standing.{IsHeld, IsSettled}
use Rattle.desk_turns.proofs.Keeps.{same_stands}
use Rattle.desk_shops.specs.Texts.{IsTextOf, text_keeper_failed}
use Rattle.desk_shops.specs.declared.text_faults.TextFault.{TextFault}
use Rattle.desk_shops.specs.Standing.{Stands}
use Rattle.desk_shops.proofs.Counting.{counted}

module _ {R : Type 0} (k : keeper.Ghosts R) (old new : R) (state : DeskState) (result : Result (List ℕ) TextFault) (same : Undisturbed k old new) (h : History) (is : Stands k old state h) where
  pub stream_stands : HasCause text_keeper_failed (k.faults old) (k.faults new) result → Stands k new state h
  stream_stands cause = record {
    desk = same_stands k old new h state.log state.log refl same cause.later (counted text_keeper_failed (k.faults old) (k.faults new) result cause) is.desk;
    anchor = is.anchor;
    engine = λ r told. is.engine r (same.content r told);
  }

  pub stream_told : state.log.doubt ≡ None → ((r : Repository) → k.content new ≡ Some r → IsTextOf r result) → (r : Repository) → k.content new ≡ Some r → (last h ≡ Some r) × IsTextOf r result
  stream_told clear told r held = let settled : IsSettled k old h = subst (IsHeld k old h) clear is.desk.held in (settled.held r (same.content r held), told r held)
