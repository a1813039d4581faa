-- What each outcome of `mirror` means.
use Rattle.std.specs.Prelude.{◌≡◌, ◌⊎◌, ℕ, Bool, true, false, List, Option, Some, None, Result, Ok, Err}
use Rattle.octets.specs.Content.{GainsPart, with_end}
use Rattle.keeper_api.specs.declared.keepers.Keeper as keeper
use Rattle.clone_stream.specs.Faults.{fault_number}
use Rattle.clone_stream.specs.declared.stream_faults.StreamFault.{StreamFault}
use Rattle.clone_stream.specs.declared.stream_faults.StreamFault.TheVariants as stream
use Rattle.worlds.specs.Breaks.{break_line}
use Rattle.worlds.specs.declared.ending.Ending.{Ending}
use Rattle.worlds.specs.declared.ending.Ending.TheVariants as ending
use Rattle.worlds.specs.declared.ending.Part.TheVariants as part
use Rattle.worlds.specs.declared.ending.Refusal.TheVariants as refusal
use Rattle.mirror.specs.Offers.{Mirrors, Refuses, RefusesInput}
use Rattle.mirror.specs.declared.mirror_faults.MirrorFault.{MirrorFault}
use Rattle.mirror.specs.declared.mirror_faults.MirrorFault.TheVariants.{Stream, BrokenKept, BrokenOffered}
use Rattle.mirror.specs.declared.mirror_faults.MirrorFault.TheVariants.{Failed, Memory}
use Rattle.mirror.specs.declared.offers.Offer.{Offer}
use Rattle.mirror.specs.declared.offers.Offer.TheVariants.{Taken, Same, Behind, Forked}
use Rattle.commands_mirror.specs.Lines.{offer_line}
use Rattle.commands_mirror.specs.declared.offering.OfferFault.{OfferFault}
use Rattle.commands_mirror.specs.declared.offering.OfferFault.TheVariants.{Refused, SinkFailed}

-- ---- how the program ends
abbrev pub stream_ending : StreamFault → Ending
stream_ending (stream.BadLine at) = ending.Refused (refusal.Stream (fault_number (stream.BadLine at)))
stream_ending (stream.IdDiffers id found) = ending.Refused (refusal.Stream (fault_number (stream.IdDiffers id found)))
stream_ending (stream.Order at) = ending.Refused (refusal.Stream (fault_number (stream.Order at)))
stream_ending (stream.TooLarge limit) = ending.Refused (refusal.Stream (fault_number (stream.TooLarge limit)))
stream_ending (stream.Truncated at) = ending.Refused (refusal.Stream (fault_number (stream.Truncated at)))
stream_ending stream.SourceFailed = ending.Refused (refusal.Fault part.Source)
stream_ending stream.KeeperFailed = ending.Refused (refusal.Fault part.Keeper)
stream_ending stream.NotEmpty = ending.Refused (refusal.Stream (fault_number stream.NotEmpty))
stream_ending stream.Memory = ending.Refused refusal.Memory

abbrev pub refused_ending : MirrorFault → Ending
refused_ending (Stream fault) = stream_ending fault
refused_ending (BrokenKept id) = ending.Broken
refused_ending (BrokenOffered id) = ending.Broken
refused_ending Failed = ending.Refused (refusal.Fault part.Keeper)
refused_ending Memory = ending.Refused refusal.Memory

abbrev pub answer_ending : Offer → Ending
answer_ending (Taken from to) = ending.Done
answer_ending (Same count) = ending.Done
answer_ending (Behind kept offered) = ending.Differs
answer_ending (Forked number kept offered) = ending.Differs

abbrev pub mirror_ending : Result Offer OfferFault → Ending
mirror_ending (Ok offer) = answer_ending offer
mirror_ending (Err (Refused fault)) = refused_ending fault
mirror_ending (Err SinkFailed) = ending.Refused (refusal.Fault part.Sink)

-- the fault that the sink counts
abbrev pub sink_failed : OfferFault → Bool
sink_failed (Refused fault) = false
sink_failed SinkFailed = true

-- a refusal as an answer
abbrev pub outcome_of : OfferFault → Result Offer OfferFault
outcome_of fault = Err fault

-- ---- what is said of a refusal
-- the commit at which a log breaks, where that is why
abbrev pub break_of : MirrorFault → Option (List ℕ)
break_of (Stream fault) = None
break_of (BrokenKept id) = Some id
break_of (BrokenOffered id) = Some id
break_of Failed = None
break_of Memory = None

-- the line of a break, if there is one
abbrev pub said_of : Option (List ℕ) → Option (List ℕ) → Option (List ℕ)
said_of None printed = printed
said_of (Some id) printed = with_end printed (break_line id)

-- a front of the line of a break was printed
pub record SaysPart (printed printed_now : Option (List ℕ)) (fault : MirrorFault) : Type 0 where
  pub id : List ℕ
  pub breaks : break_of fault ≡ Some id
  pub gains : GainsPart printed printed_now (break_line id)

abbrev pub Tells : Option (List ℕ) → Option (List ℕ) → MirrorFault → OfferFault → Type 0
Tells printed printed_now fault (Refused same) = (same ≡ fault) × (printed_now ≡ said_of (break_of fault) printed)
Tells printed printed_now fault SinkFailed = SaysPart printed printed_now fault

-- ---- what each outcome means
module _ {R : Type 0} (keeper_of : keeper.Ghosts R) (left left_now : Option (List ℕ)) (old new : R) where
  -- the offer is refused for this
  pub record RefusesOffer (fault : MirrorFault) : Type 0 where
    pub refuses : Refuses keeper_of left left_now old new fault
    pub input : (bytes : List ℕ) → left ≡ Some bytes → RefusesInput bytes left_now fault

  module _ (printed printed_now : Option (List ℕ)) where
    -- the answer was not printed whole
    pub record AnswersPart : Type 0 where
      pub offer : Offer
      pub mirrors : Mirrors keeper_of left left_now old new offer
      pub gains : GainsPart printed printed_now (offer_line offer)

    -- nor was that a log breaks
    pub record RefusesPart : Type 0 where
      pub fault : MirrorFault
      pub refuses : RefusesOffer fault
      pub says : SaysPart printed printed_now fault

    -- it was answered and that was printed; or it was refused, and that a log breaks was printed; or a front of either
    -- was printed
    abbrev pub MirrorEnds : Result Offer OfferFault → Type 0
    MirrorEnds (Ok offer) = Mirrors keeper_of left left_now old new offer
        × (printed_now ≡ with_end printed (offer_line offer))
    MirrorEnds (Err (Refused fault)) = RefusesOffer fault × (printed_now ≡ said_of (break_of fault) printed)
    MirrorEnds (Err SinkFailed) = AnswersPart ⊎ RefusesPart
