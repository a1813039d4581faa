-- What a cache keeps of a store's objects.
use Rattle.std.specs.Prelude.{◌≡◌, ◌⊎◌, ◌+◌, ◌≤◌, ◌^◌, ℕ, List, length, Option, Some, sum_by}
use Rattle.std.specs.BTreeMap as tree
use Rattle.std.specs.FinMap.{get}
use Rattle.octets.specs.BytesMap.{by_bytes}
use Rattle.git_object.specs.Objects.{Pair}
use Rattle.git_object.specs.Repository.{Repository}
use Rattle.keeper_layers.specs.declared.cached_objects.CachedObjects.{CachedObjects}

-- the object is kept under the id, in one generation or in the other
abbrev pub IsCached : CachedObjects → List ℕ → Pair → Type 0
IsCached cached id pair =
    (tree.get by_bytes cached.recent id ≡ Some pair) ⊎ (tree.get by_bytes cached.earlier id ≡ Some pair)

-- what is cached was cached before
abbrev pub IsNoMore : CachedObjects → CachedObjects → Type 0
IsNoMore before after = (id : List ℕ) (pair : Pair) → IsCached after id pair → IsCached before id pair

-- what is cached was cached before, or is this object under this id
abbrev pub GainsOnly : CachedObjects → CachedObjects → List ℕ → Pair → Type 0
GainsOnly before after its_id its = (id : List ℕ) (pair : Pair) → IsCached after id pair
    → IsCached before id pair ⊎ ((id ≡ its_id) × (pair ≡ its))

-- nothing is cached
abbrev pub IsEmpty : CachedObjects → Type 0
IsEmpty cached = (id : List ℕ) (pair : Pair) → IsCached cached id pair → ⊥

-- each object that is cached stands in the repository, where one is told, under its id
abbrev pub StandsIn : CachedObjects → Option Repository → Type 0
StandsIn cached content = (r : Repository) → content ≡ Some r → (id : List ℕ) (pair : Pair) → IsCached cached id pair
    → get r.objects id ≡ Some pair

-- ---- how much

-- an object weighs the bytes of its body, and 256 for its place in a map and what its copies share
abbrev pub weight_of : Pair → ℕ
weight_of pair = length pair.body + 256

-- what the objects of a generation weigh
abbrev pub weight_in : tree.BTreeMap (List ℕ) Pair → ℕ
weight_in objects = sum_by (λ e. weight_of e.1) objects.entries

-- each generation weighs at most 32 MiB, and the recent one with so many bytes more is within what is kept of its
-- weight
pub record HasRoom (cached : CachedObjects) (room : ℕ) : Type 0 where
  pub recent : weight_in cached.recent + room ≤ cached.weight
  pub weight : cached.weight ≤ 2 ^ 25
  pub earlier : weight_in cached.earlier ≤ 2 ^ 25

-- each generation weighs at most 32 MiB
abbrev pub IsWithin : CachedObjects → Type 0
IsWithin cached = HasRoom cached 0

-- what a cache is before a store
pub record IsCache (cached : CachedObjects) (content : Option Repository) : Type 0 where
  pub stands : StandsIn cached content
  pub within : IsWithin cached
