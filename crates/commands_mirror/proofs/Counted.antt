-- Counts of faults over the steps of these commands.
use Rattle.std.proofs.Common.{◌≡◌, ◌≤◌, ℕ, List, refl, sym, ap, ◌∙◌, subst}
use Rattle.std.specs.Prelude.{Option, Some, None, Ok, Err}
use Rattle.std.proofs.Math.Nat.{le_refl}
use Rattle.octets.specs.Causes.{HasCause, one_more}
use Rattle.clone_stream.specs.Taking.{IsOfInput}
use Rattle.clone_stream.specs.declared.stream_faults.StreamFault.{StreamFault}
use Rattle.clone_stream.specs.declared.stream_faults.StreamFault.TheVariants as stream
use Rattle.worlds.proofs.Counting.{after, sink_failed}
use Rattle.worlds.specs.Counts.{Faults, IsCounted, with_fault}
use Rattle.worlds.specs.Endings.{part_of}
use Rattle.worlds.specs.declared.ending.Ending.{Ending}
use Rattle.mirror.specs.Faults.{mirror_keeper_failed, mirror_source_failed}
use Rattle.mirror.specs.declared.mirror_faults.MirrorFault.{MirrorFault}
use Rattle.mirror.specs.declared.mirror_faults.MirrorFault.TheVariants.{Stream, BrokenKept, BrokenOffered, Failed, Memory}
use Rattle.mirror.specs.declared.offers.Offer.{Offer}
use Rattle.mirror.specs.declared.offers.Offer.TheVariants.{Taken, Same, Behind, Forked}
use Rattle.commands_mirror.specs.Offering as offering
use Rattle.commands_mirror.specs.Offering.{SaysPart, Tells, answer_ending, break_of, mirror_ending, refused_ending}
use Rattle.commands_mirror.specs.declared.offering.OfferFault.{OfferFault}
use Rattle.commands_mirror.specs.declared.offering.OfferFault.TheVariants.{Refused, SinkFailed}

-- the counts after a step of the source and of the store
abbrev stepped : Faults → ℕ → ℕ → Faults
stepped f source keeper = record f { source = source; keeper = keeper }

module _ (f : Faults) (source keeper : ℕ) where
  quiet_step : (ending : Ending) → part_of ending ≡ None → f.source ≤ source → source ≡ f.source → f.keeper ≤ keeper → keeper ≡ f.keeper → IsCounted ending f (stepped f source keeper)
  quiet_step ending none source_later source_same keeper_later keeper_same = record {
    is = (λ i. record f { source = source_same i; keeper = keeper_same i }) ∙ ap (λ (p : _). with_fault p f) (sym none);
    later = record { source = source_later; sink = le_refl f.sink; keeper = keeper_later; disk = le_refl f.disk; entropy = le_refl f.entropy; clock = le_refl f.clock; peer = le_refl f.peer };
  }

  source_step : f.source ≤ source → source ≡ one_more f.source → f.keeper ≤ keeper → keeper ≡ f.keeper → IsCounted (refused_ending (Stream stream.SourceFailed)) f (stepped f source keeper)
  source_step source_later source_more keeper_later keeper_same = record {
    is = λ i. record f { source = source_more i; keeper = keeper_same i };
    later = record { source = source_later; sink = le_refl f.sink; keeper = keeper_later; disk = le_refl f.disk; entropy = le_refl f.entropy; clock = le_refl f.clock; peer = le_refl f.peer };
  }

  keeper_step : f.source ≤ source → source ≡ f.source → f.keeper ≤ keeper → keeper ≡ one_more f.keeper → IsCounted (refused_ending Failed) f (stepped f source keeper)
  keeper_step source_later source_same keeper_later keeper_more = record {
    is = λ i. record f { source = source_same i; keeper = keeper_more i };
    later = record { source = source_later; sink = le_refl f.sink; keeper = keeper_later; disk = le_refl f.disk; entropy = le_refl f.entropy; clock = le_refl f.clock; peer = le_refl f.peer };
  }

  stream_counted : (fault : StreamFault) → IsOfInput fault → HasCause {T = Offer} mirror_source_failed f.source source (Err (Stream fault)) → HasCause {T = Offer} mirror_keeper_failed f.keeper keeper (Err (Stream fault))
      → IsCounted (refused_ending (Stream fault)) f (stepped f source keeper)
  stream_counted (stream.BadLine at) real s k = quiet_step _ refl s.later s.is k.later k.is
  stream_counted (stream.IdDiffers id found) real s k = quiet_step _ refl s.later s.is k.later k.is
  stream_counted (stream.Order at) real s k = quiet_step _ refl s.later s.is k.later k.is
  stream_counted (stream.TooLarge limit) real s k = quiet_step _ refl s.later s.is k.later k.is
  stream_counted (stream.Truncated at) real s k = quiet_step _ refl s.later s.is k.later k.is
  stream_counted stream.SourceFailed real s k = source_step s.later s.is k.later k.is
  stream_counted stream.KeeperFailed real s k = absurd real
  stream_counted stream.NotEmpty real s k = absurd real
  stream_counted stream.Memory real s k = absurd real

  -- an offer that is refused
  pub refused_counted : (fault : MirrorFault) → ((why : StreamFault) → fault ≡ Stream why → IsOfInput why) → HasCause {T = Offer} mirror_source_failed f.source source (Err fault)
      → HasCause {T = Offer} mirror_keeper_failed f.keeper keeper (Err fault) → IsCounted (refused_ending fault) f (stepped f source keeper)
  refused_counted (Stream fault) real s k = stream_counted fault (real fault refl) s k
  refused_counted (BrokenKept id) real s k = quiet_step _ refl s.later s.is k.later k.is
  refused_counted (BrokenOffered id) real s k = quiet_step _ refl s.later s.is k.later k.is
  refused_counted Failed real s k = keeper_step s.later s.is k.later k.is
  refused_counted Memory real s k = quiet_step _ refl s.later s.is k.later k.is

  -- an offer that is answered
  pub answered_counted : (offer : Offer) → HasCause mirror_source_failed f.source source (Ok offer) → HasCause mirror_keeper_failed f.keeper keeper (Ok offer)
      → IsCounted (answer_ending offer) f (stepped f source keeper)
  answered_counted (Taken from to) s k = quiet_step _ refl s.later s.is k.later k.is
  answered_counted (Same count) s k = quiet_step _ refl s.later s.is k.later k.is
  answered_counted (Behind ours theirs) s k = quiet_step _ refl s.later s.is k.later k.is
  answered_counted (Forked number ours theirs) s k = quiet_step _ refl s.later s.is k.later k.is

pub answer_quiet : (offer : Offer) → part_of (answer_ending offer) ≡ None
answer_quiet (Taken from to) = refl
answer_quiet (Same count) = refl
answer_quiet (Behind ours theirs) = refl
answer_quiet (Forked number ours theirs) = refl

-- a log that breaks is no fault
break_quiet : (fault : MirrorFault) (id : List ℕ) → break_of fault ≡ Some id → part_of (refused_ending fault) ≡ None
break_quiet (Stream fault) id is = let bad : None ≡ Some id = is in cc
break_quiet (BrokenKept at) id is = refl
break_quiet (BrokenOffered at) id is = refl
break_quiet Failed id is = let bad : None ≡ Some id = is in cc
break_quiet Memory id is = let bad : None ≡ Some id = is in cc

-- what is said of a refusal counts a fault of the sink alone
pub told_counted : (was mid : Faults) (sink : ℕ) (printed printed_now : Option (List ℕ)) (fault : MirrorFault) (told : OfferFault) → IsCounted (refused_ending fault) was mid
    → Tells printed printed_now fault told → HasCause {T = Offer} offering.sink_failed mid.sink sink (Err told) → IsCounted (mirror_ending (Err told)) was (record mid { sink = sink })
told_counted was mid sink printed printed_now fault (Refused same) counted tells cause =
    subst (λ (f : MirrorFault). IsCounted (refused_ending f) was (record mid { sink = sink })) (sym tells.0)
    (subst (λ (n : ℕ). IsCounted (refused_ending fault) was (record mid { sink = n })) (sym cause.is) counted)
told_counted was mid sink printed printed_now fault SinkFailed counted tells cause =
    after {m = mid} (refused_ending fault) (mirror_ending (Err SinkFailed)) (break_quiet fault tells.id tells.breaks) counted (sink_failed mid sink cause.later cause.is)
