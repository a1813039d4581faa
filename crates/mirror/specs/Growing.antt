-- A copy that only grows, and keeps each other past that it was offered.
use Rattle.std.specs.Prelude.{◌≡◌, ◌≢◌, ◌+◌, ◌++◌, ◌∷◌, [], ℕ, List, length, Some}
use Rattle.std.specs.FinMap.{get}
use Rattle.git_object.specs.Objects.{Pair}
use Rattle.git_object.specs.Repository.{Repository, object_at}
use Rattle.rsl_chain.specs.Logs.{IsLogOf, heads_of}
use Rattle.rsl_chain.specs.declared.heads.Head.{Head}
use Rattle.mirror.specs.Mirrors.{Makes}
use Rattle.mirror.specs.Names.{fork_name}
use Rattle.mirror.specs.declared.offers.Offer.{Offer}
use Rattle.mirror.specs.declared.offers.Offer.TheVariants.{Forked}

-- where an object of an id is kept, none but it is offered under that id
abbrev pub NoneClashes : Repository → Repository → Type 0
NoneClashes kept offered =
    (id : List ℕ) (had new : Pair) → object_at kept id ≡ Some had → get offered.objects id ≡ Some new → new ≡ had

-- these were offered one after the other, and so the first repository became the last one
abbrev pub AreOffers : Repository → List (Repository × Offer) → Repository → Type 0
AreOffers kept [] now = now ≡ kept
AreOffers kept (offer ∷ more) now =
    (next : Repository) × Makes offer.0 offer.1 kept next × NoneClashes kept offer.0 × AreOffers next more now

-- the reference leads to an entry of its number that is kept, where the log has another one
pub record HasFork (r : Repository) (log : List (List ℕ)) (name : List ℕ) : Type 0 where
  pub number : ℕ
  pub id : List ℕ
  pub named : name ≡ fork_name number id
  pub stands : get r.refs name ≡ Some id
  pub head : Head
  pub read : heads_of r id ≡ Some head
  pub counts : head.number ≡ number
  pub front : List (List ℕ)
  pub other : List ℕ
  pub rest : List (List ℕ)
  pub place : log ≡ front ++ other ∷ rest
  pub at_number : length front + 1 ≡ number
  pub differs : other ≢ id

-- the kept log is a front of the new one, and each other past that was kept still is
pub record Grown (kept : Repository) (ids : List (List ℕ)) (now : Repository) : Type 0 where
  pub now_ids : List (List ℕ)
  pub is_log : IsLogOf now now_ids
  pub more : List (List ℕ)
  pub front : now_ids ≡ ids ++ more
  pub forks : (name : List ℕ) → HasFork kept ids name → HasFork now now_ids name

-- ---- what holds of them

abbrev pub OnlyGrows : Type 0
OnlyGrows = (kept now : Repository) (ids : List (List ℕ)) (offers : List (Repository × Offer)) → IsLogOf kept ids
    → AreOffers kept offers now → Grown kept ids now

-- another past that is offered is kept
abbrev pub KeepsForks : Type 0
KeepsForks = (kept offered now : Repository) (ids : List (List ℕ)) (number : ℕ) (ours theirs : List ℕ)
    → IsLogOf kept ids → Makes offered (Forked number ours theirs) kept now → NoneClashes kept offered
    → HasFork now ids (fork_name number theirs)
