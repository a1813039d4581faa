-- What an offer makes of the kept repository.
use Rattle.std.specs.Prelude.{◌≡◌, ℕ, List, Option, Some, None, if◌then◌else◌}
use Rattle.std.specs.Option.{option_or}
use Rattle.std.specs.FinMap.{get}
use Rattle.std.specs.Str.{bytes_eq}
use Rattle.git_object.specs.Objects.{Pair}
use Rattle.git_object.specs.Repository.{Repository}
use Rattle.rsl_chain.specs.Logs.{IsLogOf}
use Rattle.mirror.specs.Names.{fork_name, is_own}
use Rattle.mirror.specs.Offering.{IsOffering}
use Rattle.mirror.specs.declared.offers.Offer.{Offer}
use Rattle.mirror.specs.declared.offers.Offer.TheVariants.{Taken, Same, Behind, Forked}

-- each offered object is kept, and the references are the offered ones, but for the mirror's own
pub record Takes (offered kept now : Repository) : Type 0 where
  pub refs : (name : List ℕ) → get now.refs name ≡ (if is_own name then get kept.refs name else get offered.refs name)
  pub objects : (id : List ℕ) → get now.objects id ≡ option_or (get offered.objects id) (get kept.objects id)

-- what is offered at this id, and nothing else
abbrev pub only_at : List ℕ → Repository → List ℕ → Option Pair
only_at id offered other = if bytes_eq other id then get offered.objects other else None

-- the offered object of this id is kept, and a reference to it
pub record Forks (offered : Repository) (number : ℕ) (id : List ℕ) (kept now : Repository) : Type 0 where
  pub refs : (name : List ℕ)
      → get now.refs name ≡ (if bytes_eq name (fork_name number id) then Some id else get kept.refs name)
  pub objects : (other : List ℕ)
      → get now.objects other ≡ option_or (only_at id offered other) (get kept.objects other)

abbrev pub IsAfter : Repository → Offer → Repository → Repository → Type 0
IsAfter offered (Taken from to) kept now = Takes offered kept now
IsAfter offered (Same count) kept now = now ≡ kept
IsAfter offered (Behind ours theirs) kept now = now ≡ kept
IsAfter offered (Forked number ours theirs) kept now = Forks offered number theirs kept now

-- what the log of an offered repository is to that of the kept one
pub record Compares (kept offered : Repository) (offer : Offer) : Type 0 where
  pub kept_ids : List (List ℕ)
  pub kept_log : IsLogOf kept kept_ids
  pub offered_ids : List (List ℕ)
  pub offered_log : IsLogOf offered offered_ids
  pub is : IsOffering kept_ids offered_ids offer

-- the kept repository becomes what their logs make of it and of an offered one
pub record Makes (offered : Repository) (offer : Offer) (kept now : Repository) : Type 0 where
  pub compares : Compares kept offered offer
  pub after : IsAfter offered offer kept now
