-- What each answer to an offer means.
use Rattle.std.specs.Prelude.{◌≡◌, ◌⊎◌, ℕ, true, List, Option, Some}
use Rattle.octets.specs.Content.{Told}
use Rattle.git_object.specs.Repository.{Repository}
use Rattle.keeper_api.specs.Undisturbed.{Undisturbed}
use Rattle.keeper_api.specs.declared.keepers.Keeper.{Ghosts}
use Rattle.rsl_chain.specs.Logs.{IsBreakOf, IsLogOf}
use Rattle.clone_stream.specs.Streams.{IsStreamText}
use Rattle.clone_stream.specs.Taking.{IsDecided, IsOfInput, IsWhole, WasRead}
use Rattle.mirror.specs.Mirrors.{Makes}
use Rattle.mirror.specs.Settling.{Rests}
use Rattle.mirror.specs.declared.mirror_faults.MirrorFault.{MirrorFault}
use Rattle.mirror.specs.declared.mirror_faults.MirrorFault.TheVariants.{Stream, BrokenKept, BrokenOffered}
use Rattle.mirror.specs.declared.mirror_faults.MirrorFault.TheVariants.{Failed, Memory}
use Rattle.mirror.specs.declared.offers.Offer.{Offer}

-- the source was read to its end, and its bytes are the stream of this repository
pub record IsOffered (left left_now : Option (List ℕ)) (offered : Repository) : Type 0 where
  pub bytes : List ℕ
  pub was_read : WasRead left left_now bytes
  pub text : IsStreamText offered bytes

module _ {S : Type 0} (keeper : Ghosts S) (left left_now : Option (List ℕ)) (old new : S) where
  -- what was offered was compared, and the store is what that makes of it
  pub record Mirrors (offer : Offer) : Type 0 where
    pub offered : Repository
    pub is : IsOffered left left_now offered
    pub held : Told (Makes offered offer) (keeper.content old) (keeper.content new)
    pub rests : Rests keeper old new offer

  -- one became the other by some offer of what the source gave
  pub record MadeOf (was now : Repository) : Type 0 where
    pub offered : Repository
    pub is : IsOffered left left_now offered
    pub offer : Offer
    pub makes : Makes offered offer was now

  -- the kept store failed: it is as it was or what an offer makes of it, and so is what a stop leaves
  pub record MayMirror : Type 0 where
    pub held : Told (λ was now. (now ≡ was) ⊎ MadeOf was now) (keeper.content old) (keeper.content new)
    pub tells : keeper.tells_left new ≡ true → keeper.tells_left old ≡ true
    pub stop : keeper.tells_left new ≡ true → (r : Repository) → keeper.left new r → keeper.left old r
        ⊎ ((was : Repository) × (keeper.content old ≡ Some was) × MadeOf was r)

  -- the kept log breaks
  pub record BreaksKept (id : List ℕ) : Type 0 where
    pub breaks : (r : Repository) → keeper.content new ≡ Some r → IsBreakOf r id
    pub same : Undisturbed keeper old new

  -- the kept log stands, and the offered one breaks
  pub record BreaksOffered (id : List ℕ) : Type 0 where
    pub offered : Repository
    pub is : IsOffered left left_now offered
    pub breaks : IsBreakOf offered id
    pub stands : (r : Repository) → keeper.content new ≡ Some r → (ids : List (List ℕ)) × IsLogOf r ids
    pub same : Undisturbed keeper old new

  -- what a refusal says and leaves
  abbrev pub Refuses : MirrorFault → Type 0
  Refuses (Stream fault) = IsOfInput fault × Undisturbed keeper old new
  Refuses (BrokenKept id) = BreaksKept id
  Refuses (BrokenOffered id) = BreaksOffered id
  Refuses Failed = MayMirror
  Refuses Memory = Undisturbed keeper old new

-- what a refusal says of the input: it is no stream, or it was read to its end
abbrev pub RefusesInput : List ℕ → Option (List ℕ) → MirrorFault → Type 0
RefusesInput input after (Stream fault) = IsDecided input after fault
RefusesInput input after (BrokenKept id) = IsWhole input after
RefusesInput input after (BrokenOffered id) = IsWhole input after
RefusesInput input after Failed = IsWhole input after
RefusesInput input after Memory = Unit {0}
