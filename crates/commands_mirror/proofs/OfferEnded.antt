-- How an offer that was refused ends.
use Rattle.std.proofs.Common.{◌≡◌, List, ℕ, inr, sym, subst, ◌∙◌, ap}
use Rattle.std.specs.Prelude.{IfSome, Option, Some, None, Err}
use Rattle.keeper_api.specs.declared.keepers.Keeper as keeper
use Rattle.clone_stream.specs.Taking.{IsOfInput}
use Rattle.clone_stream.specs.declared.stream_faults.StreamFault.{StreamFault}
use Rattle.mirror.specs.Offers.{Refuses, RefusesInput}
use Rattle.mirror.specs.declared.mirror_faults.MirrorFault.{MirrorFault}
use Rattle.mirror.specs.declared.mirror_faults.MirrorFault.TheVariants.{Stream}
use Rattle.commands_mirror.specs.Offering.{MirrorEnds, RefusesOffer, Tells, break_of, said_of}
use Rattle.commands_mirror.specs.declared.offering.OfferFault.{OfferFault}
use Rattle.commands_mirror.specs.declared.offering.OfferFault.TheVariants.{Refused, SinkFailed}

of_some : {A : Type 0} (P : A → Type 0) (o : Option A) → IfSome o P → (a : A) → o ≡ Some a → P a
of_some P None so a e = let bad : None ≡ Some a = e in cc
of_some P (Some b) so a e = let same : b ≡ a = cc in subst P same so

module _ {R : Type 0} (keeper_of : keeper.Ghosts R) (left left_now : Option (List ℕ)) (old new : R) (fault : MirrorFault) (refuses : Refuses keeper_of left left_now old new fault) where
  -- a refusal of the stream is one of its input
  pub of_input : (why : StreamFault) → fault ≡ Stream why → IsOfInput why
  of_input why is = (subst (Refuses keeper_of left left_now old new) is refuses).0

  pub refuses_offer : IfSome left (λ input. RefusesInput input left_now fault) → RefusesOffer keeper_of left left_now old new fault
  refuses_offer input = record { refuses = refuses; input = λ bytes told. of_some (λ given. RefusesInput given left_now fault) left input bytes told }

  pub refused_ends : IfSome left (λ input. RefusesInput input left_now fault) → (printed printed_now : Option (List ℕ)) (told : OfferFault) → Tells printed printed_now fault told
      → MirrorEnds keeper_of left left_now old new printed printed_now (Err told)
  refused_ends input printed printed_now (Refused same) tells = (
    subst (RefusesOffer keeper_of left left_now old new) (sym tells.0) (refuses_offer input),
    tells.1 ∙ ap (λ (f : MirrorFault). said_of (break_of f) printed) (sym tells.0),
  )
  refused_ends input printed printed_now SinkFailed tells = inr (record { fault = fault; refuses = refuses_offer input; says = tells })
