-- Parts of an offer: the stream, the logs, and what was made of the store by what was read.
use Rattle.std.specs.Prelude.{◌≡◌, ◌⊎◌, ℕ, true, List, Option, Some, Result, Ok, Err}
use Rattle.octets.specs.Content.{Told}
use Rattle.git_object.specs.Repository.{Repository}
use Rattle.keeper_api.specs.Undisturbed.{Undisturbed}
use Rattle.keeper_api.specs.declared.keepers.Keeper.{Ghosts}
use Rattle.rsl_chain.specs.Logs.{IsBreakOf, IsLogOf}
use Rattle.clone_stream.specs.Taking.{IsDecided, IsOfInput}
use Rattle.mirror.specs.Mirrors.{Makes}
use Rattle.mirror.specs.Settling.{Rests}
use Rattle.mirror.specs.declared.mirror_faults.MirrorFault.{MirrorFault}
use Rattle.mirror.specs.declared.mirror_faults.MirrorFault.TheVariants.{Stream, BrokenKept, BrokenOffered}
use Rattle.mirror.specs.declared.mirror_faults.MirrorFault.TheVariants.{Failed, Memory}
use Rattle.mirror.specs.declared.offers.Offer.{Offer}

-- the refusals that come of reading a stream
abbrev pub IsReadFault : MirrorFault → Type 0
IsReadFault (Stream fault) = IsOfInput fault
IsReadFault (BrokenKept id) = ⊥
IsReadFault (BrokenOffered id) = ⊥
IsReadFault Failed = ⊥
IsReadFault Memory = Unit {0}

-- what such a refusal says of the input
abbrev pub RefusesRead : List ℕ → Option (List ℕ) → MirrorFault → Type 0
RefusesRead input after (Stream fault) = IsDecided input after fault
RefusesRead input after (BrokenKept id) = ⊥
RefusesRead input after (BrokenOffered id) = ⊥
RefusesRead input after Failed = ⊥
RefusesRead input after Memory = Unit {0}

-- the refusals that come of the kept log
abbrev pub IsKeptFault : MirrorFault → Type 0
IsKeptFault (Stream fault) = ⊥
IsKeptFault (BrokenKept id) = Unit {0}
IsKeptFault (BrokenOffered id) = ⊥
IsKeptFault Failed = Unit {0}
IsKeptFault Memory = Unit {0}

-- those that come of the offered one
abbrev pub IsOfferedFault : MirrorFault → Type 0
IsOfferedFault (Stream fault) = ⊥
IsOfferedFault (BrokenKept id) = ⊥
IsOfferedFault (BrokenOffered id) = Unit {0}
IsOfferedFault Failed = ⊥
IsOfferedFault Memory = Unit {0}

-- what a refusal says of the kept log: it breaks, or it stands where the offered one is said to break
abbrev pub BreaksAsKept : Repository → MirrorFault → Type 0
BreaksAsKept kept (Stream fault) = ⊥
BreaksAsKept kept (BrokenKept id) = IsBreakOf kept id
BreaksAsKept kept (BrokenOffered id) = (ids : List (List ℕ)) × IsLogOf kept ids
BreaksAsKept kept Failed = Unit {0}
BreaksAsKept kept Memory = Unit {0}

-- and of the offered one
abbrev pub BreaksAsOffered : Repository → MirrorFault → Type 0
BreaksAsOffered offered (Stream fault) = ⊥
BreaksAsOffered offered (BrokenKept id) = Unit {0}
BreaksAsOffered offered (BrokenOffered id) = IsBreakOf offered id
BreaksAsOffered offered Failed = Unit {0}
BreaksAsOffered offered Memory = Unit {0}

module _ {S : Type 0} (keeper : Ghosts S) (old new : S) (offered : Repository) where
  -- the store is what the offer makes of it
  pub record Offers (offer : Offer) : Type 0 where
    pub held : Told (Makes offered offer) (keeper.content old) (keeper.content new)
    pub rests : Rests keeper old new offer

  -- one became the other by some offer
  abbrev pub ByOffer : Repository → Repository → Type 0
  ByOffer was now = (offer : Offer) × Makes offered offer was now

  -- the kept store failed
  pub record MayOffer : Type 0 where
    pub held : Told (λ was now. (now ≡ was) ⊎ ByOffer was now) (keeper.content old) (keeper.content new)
    pub tells : keeper.tells_left new ≡ true → keeper.tells_left old ≡ true
    pub stop : keeper.tells_left new ≡ true → (r : Repository) → keeper.left new r → keeper.left old r
        ⊎ ((was : Repository) × (keeper.content old ≡ Some was) × ByOffer was r)

  -- the kept log breaks
  pub record NoKeptLog (id : List ℕ) : Type 0 where
    pub breaks : (r : Repository) → keeper.content new ≡ Some r → IsBreakOf r id
    pub same : Undisturbed keeper old new

  -- the kept log stands, and the offered one breaks
  pub record NoOfferedLog (id : List ℕ) : Type 0 where
    pub breaks : IsBreakOf offered id
    pub stands : (r : Repository) → keeper.content new ≡ Some r → (ids : List (List ℕ)) × IsLogOf r ids
    pub same : Undisturbed keeper old new

  -- how the offer of this repository ended
  abbrev pub OfferEnds : Result Offer MirrorFault → Type 0
  OfferEnds (Ok offer) = Offers offer
  OfferEnds (Err (Stream fault)) = ⊥
  OfferEnds (Err (BrokenKept id)) = NoKeptLog id
  OfferEnds (Err (BrokenOffered id)) = NoOfferedLog id
  OfferEnds (Err Failed) = MayOffer
  OfferEnds (Err Memory) = Undisturbed keeper old new
