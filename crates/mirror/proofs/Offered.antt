-- How an offer ends: the stream, the logs, and the change of the store.
use Rattle.std.proofs.Common.{◌≡◌, ◌⊎◌, ◌≤◌, ℕ, List, refl, subst, inl, inr, arith}
use Rattle.std.specs.Prelude.{Option, Some, None, IfErr, IfOk, IfSome, Result, Ok, Err}
use Rattle.octets.specs.Causes.{HasCause}
use Rattle.git_object.specs.Repository.{Repository}
use Rattle.keeper_api.specs.Undisturbed.{Undisturbed}
use Rattle.keeper_api.specs.declared.keeper_faults.KeeperFault.{KeeperFault}
use Rattle.keeper_api.specs.declared.keeper_faults.KeeperFault.TheVariants as keeper_fault
use Rattle.keeper_api.specs.declared.keepers.Keeper.{Ghosts}
use Rattle.keeper_api.proofs.Coming.{as_before, as_before_then}
use Rattle.clone_stream.specs.Taking.{IsWhole, WasRead}
use Rattle.mirror.specs.Faults.{fault_of_keeper, mirror_keeper_failed, mirror_source_failed}
use Rattle.mirror.specs.Mirrors.{Compares, Forks, Makes, Takes}
use Rattle.mirror.specs.Offers.{IsOffered, MadeOf, Mirrors, Refuses, RefusesInput}
use Rattle.mirror.specs.Reading.{BreaksAsKept, BreaksAsOffered, ByOffer, IsReadFault, MayOffer, OfferEnds, Offers, RefusesRead}
use Rattle.mirror.specs.Settling.{LeavesHeld, MayBecome, Settles}
use Rattle.mirror.specs.declared.mirror_faults.MirrorFault.{MirrorFault}
use Rattle.mirror.specs.declared.mirror_faults.MirrorFault.TheVariants.{Stream, BrokenKept, BrokenOffered, Failed, Memory}
use Rattle.mirror.specs.declared.offers.Offer.{Offer}
use Rattle.mirror.specs.declared.offers.Offer.TheVariants.{Taken, Same, Behind, Forked}

module _ {S : Type 0} (keeper : Ghosts S) (offered : Repository) where
  -- a store that was only read
  may_offer : (old new : S) → Undisturbed keeper old new → MayOffer keeper old new offered
  may_offer old new same = record {
    held = λ now told. (now, same.content now told, inl refl);
    tells = same.tells;
    stop = λ tells r left. inl (same.left tells r left);
  }

  pub refused : (old new : S) (fault : MirrorFault) → ((r : Repository) → keeper.content new ≡ Some r → BreaksAsKept r fault) → BreaksAsOffered offered fault → Undisturbed keeper old new
      → OfferEnds keeper old new offered (Err fault)
  refused old new (Stream fault) kept theirs same = theirs
  refused old new (BrokenKept id) kept theirs same = record { breaks = kept; same = same }
  refused old new (BrokenOffered id) kept theirs same = record { breaks = theirs; stands = kept; same = same }
  refused old new Failed kept theirs same = may_offer old new same
  refused old new Memory kept theirs same = same

  module _ (old mid new : S) (same : Undisturbed keeper old mid) where
    -- a change that may have been made
    may : (After : Repository → Repository → Type 0) (offer : Offer) → ((was now : Repository) → keeper.content mid ≡ Some was → After was now → Makes offered offer was now)
        → MayBecome keeper mid new After → MayOffer keeper old new offered
    may After offer makes settles = record {
      held = λ now told. let was = settles.held now told in (was.0, same.content was.0 was.1, or_made was.0 now was.1 was.2);
      tells = λ tells. same.tells (settles.tells tells);
      stop = λ tells r left. elim (settles.stop tells r left) [
        | inl past ↦ inl (same.left (settles.tells tells) r past)
        | inr is ↦ inr (is.0, same.content is.0 is.1, (offer, makes is.0 r is.1 is.2))
      ];
    }
      where
        or_made : (was now : Repository) → keeper.content mid ≡ Some was → (now ≡ was) ⊎ After was now → (now ≡ was) ⊎ ByOffer keeper old new offered was now
        or_made was now told (inl is) = inl is
        or_made was now told (inr is) = inr (offer, makes was now told is)

    leaves_on : LeavesHeld keeper mid new → LeavesHeld keeper old new
    leaves_on leaves = record { tells = λ tells. same.tells (leaves.tells tells); stop = leaves.stop }

    -- what was compared is settled
    pub made : (offer : Offer) → ((r : Repository) → keeper.content mid ≡ Some r → Compares r offered offer) → Settles keeper mid new offered offer (Ok tt) → Offers keeper old new offered offer
    made (Taken from to) compares settles = record {
      held = λ now told. let was = settles.held now told in (was.0, same.content was.0 was.1, record { compares = compares was.0 was.1; after = was.2 });
      rests = leaves_on settles.leaves;
    }
    made (Same count) compares settles = record {
      held = λ now told. let was = settles.content now told in (now, same.content now was, record { compares = compares now was; after = refl });
      rests = as_before_then keeper old mid new same settles;
    }
    made (Behind ours theirs) compares settles = record {
      held = λ now told. let was = settles.content now told in (now, same.content now was, record { compares = compares now was; after = refl });
      rests = as_before_then keeper old mid new same settles;
    }
    made (Forked number ours theirs) compares settles = record {
      held = λ now told. let was = settles.held now told in (was.0, same.content was.0 was.1, record { compares = compares was.0 was.1; after = was.2 });
      rests = leaves_on settles.leaves;
    }

    -- or the store failed, or memory was wanting
    pub unmade : (offer : Offer) (fault : KeeperFault) → ((r : Repository) → keeper.content mid ≡ Some r → Compares r offered offer) → Settles keeper mid new offered offer (Err fault)
        → OfferEnds keeper old new offered (Err (fault_of_keeper fault))
    unmade (Taken from to) keeper_fault.Failed compares settles =
        may (Takes offered) (Taken from to) (λ was now told is. record { compares = compares was told; after = is }) settles
    unmade (Taken from to) keeper_fault.Memory compares settles = as_before_then keeper old mid new same settles
    unmade (Same count) keeper_fault.Failed compares settles = may_offer old new (as_before_then keeper old mid new same settles)
    unmade (Same count) keeper_fault.Memory compares settles = as_before_then keeper old mid new same settles
    unmade (Behind ours theirs) keeper_fault.Failed compares settles = may_offer old new (as_before_then keeper old mid new same settles)
    unmade (Behind ours theirs) keeper_fault.Memory compares settles = as_before_then keeper old mid new same settles
    unmade (Forked number ours theirs) keeper_fault.Failed compares settles =
        may (Forks offered number theirs) (Forked number ours theirs) (λ was now told is. record { compares = compares was told; after = is }) settles
    unmade (Forked number ours theirs) keeper_fault.Memory compares settles = as_before_then keeper old mid new same settles

-- ---- with the stream

unread_input : (input : List ℕ) (left_now : Option (List ℕ)) (fault : MirrorFault) → RefusesRead input left_now fault → RefusesInput input left_now fault
unread_input input left_now (Stream fault) is = is
unread_input input left_now (BrokenKept id) is = absurd is
unread_input input left_now (BrokenOffered id) is = absurd is
unread_input input left_now Failed is = absurd is
unread_input input left_now Memory is = tt

pub unread_stream : (left left_now : Option (List ℕ)) (fault : MirrorFault) → IfSome left (λ input. RefusesRead input left_now fault) → IfSome left (λ input. RefusesInput input left_now fault)
unread_stream None left_now fault is = tt
unread_stream (Some input) left_now fault is = unread_input input left_now fault is

if_some : {A : Type 0} (P : A → Type 0) (o : Option A) → ((a : A) → o ≡ Some a → P a) → IfSome o P
if_some P None so = tt
if_some P (Some a) so = so a refl

-- the source gave no stream
pub unread : {S : Type 0} (keeper : Ghosts S) (left left_now : Option (List ℕ)) (store : S) (fault : MirrorFault) → IsReadFault fault → Refuses keeper left left_now store store fault
unread keeper left left_now store (Stream fault) is = (is, as_before keeper store)
unread keeper left left_now store (BrokenKept id) is = absurd is
unread keeper left left_now store (BrokenOffered id) is = absurd is
unread keeper left left_now store Failed is = absurd is
unread keeper left left_now store Memory is = as_before keeper store

module _ {S : Type 0} (keeper : Ghosts S) (left left_now : Option (List ℕ)) (old new : S) where
  module _ (offered : Repository) (is : IsOffered left left_now offered) where
    pub mirrors : (result : Result Offer MirrorFault) → OfferEnds keeper old new offered result → IfOk result (Mirrors keeper left left_now old new)
    mirrors (Ok offer) ends = record { offered = offered; is = is; held = ends.held; rests = ends.rests }
    mirrors (Err fault) ends = tt

    made_of : (was now : Repository) → ByOffer keeper old new offered was now → MadeOf keeper left left_now old new was now
    made_of was now by = record { offered = offered; is = is; offer = by.0; makes = by.1 }

    or_made_of : (was now : Repository) → (now ≡ was) ⊎ ByOffer keeper old new offered was now → (now ≡ was) ⊎ MadeOf keeper left left_now old new was now
    or_made_of was now (inl same) = inl same
    or_made_of was now (inr by) = inr (made_of was now by)

    refuses_so : (fault : MirrorFault) → OfferEnds keeper old new offered (Err fault) → Refuses keeper left left_now old new fault
    refuses_so (Stream fault) ends = absurd ends
    refuses_so (BrokenKept id) ends = record { breaks = ends.breaks; same = ends.same }
    refuses_so (BrokenOffered id) ends = record { offered = offered; is = is; breaks = ends.breaks; stands = ends.stands; same = ends.same }
    refuses_so Failed ends = record {
      held = λ now told. let was = ends.held now told in (was.0, was.1, or_made_of was.0 now was.2);
      tells = ends.tells;
      stop = λ tells r left_then. elim (ends.stop tells r left_then) [
        | inl past ↦ inl past
        | inr by ↦ inr (by.0, by.1, made_of by.0 r by.2)
      ];
    }
    refuses_so Memory ends = ends

    pub refuses : (result : Result Offer MirrorFault) → OfferEnds keeper old new offered result → IfErr result (Refuses keeper left left_now old new)
    refuses (Ok offer) ends = tt
    refuses (Err fault) ends = refuses_so fault ends

    whole : (input : List ℕ) → left ≡ Some input → IsWhole input left_now
    whole input told = record { bytes = is.bytes; repository = offered; was_read = subst (λ (l : Option (List ℕ)). WasRead l left_now is.bytes) told is.was_read; text = is.text }

    input_so : (input : List ℕ) → left ≡ Some input → (fault : MirrorFault) → OfferEnds keeper old new offered (Err fault) → RefusesInput input left_now fault
    input_so input told (Stream fault) ends = absurd ends
    input_so input told (BrokenKept id) ends = whole input told
    input_so input told (BrokenOffered id) ends = whole input told
    input_so input told Failed ends = whole input told
    input_so input told Memory ends = tt

    pub refuses_input : (result : Result Offer MirrorFault) → OfferEnds keeper old new offered result
        → IfErr result (λ fault. IfSome left (λ input. RefusesInput input left_now fault))
    refuses_input (Ok offer) ends = tt
    refuses_input (Err fault) ends = if_some (λ input. RefusesInput input left_now fault) left (λ input told. input_so input told fault ends)

    -- the source counted nothing more
    pub source_quiet : (before now : ℕ) (result : Result Offer MirrorFault) → OfferEnds keeper old new offered result → before ≤ now → now ≡ before → HasCause mirror_source_failed before now result
    source_quiet before now (Ok offer) ends later same = record { later = later; is = same }
    source_quiet before now (Err (Stream fault)) ends later same = absurd ends
    source_quiet before now (Err (BrokenKept id)) ends later same = record { later = later; is = same }
    source_quiet before now (Err (BrokenOffered id)) ends later same = record { later = later; is = same }
    source_quiet before now (Err Failed) ends later same = record { later = later; is = same }
    source_quiet before now (Err Memory) ends later same = record { later = later; is = same }

-- a refusal of the stream counts nothing of the store
pub keeper_quiet : (count : ℕ) (fault : MirrorFault) → IsReadFault fault → HasCause {T = Offer} mirror_keeper_failed count count (Err fault)
keeper_quiet count (Stream fault) is = record { later = omega arith; is = refl }
keeper_quiet count (BrokenKept id) is = absurd is
keeper_quiet count (BrokenOffered id) is = absurd is
keeper_quiet count Failed is = absurd is
keeper_quiet count Memory is = record { later = omega arith; is = refl }
