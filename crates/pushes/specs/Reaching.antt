-- What is reached from an object of a repository, through what the objects that are kept name.
use Rattle.std.specs.Prelude.{◌≡◌, ◌++◌, ◌∷◌, [], ℕ, List}
use Rattle.git_object.specs.Repository.{Repository, object_at}
use Rattle.pushes.specs.Needing.{after, names_or}

-- what the object kept under an id names; nothing where none is kept, so that a walk goes past what is missing
abbrev pub names_kept : Repository → List ℕ → List (List ℕ)
names_kept r id = names_or (object_at r id)

-- a walk over these ids, once those were visited, ends with all of these visited
pub record Ends (r : Repository) (seen ahead ended : List (List ℕ)) : Type 0 where
  pub step : ℕ
  pub is : after (names_kept r) step (record { seen = seen; ahead = ahead }) ≡ record { seen = ended; ahead = [] }

-- these ids are reached from the target and not from the one before, in the order in which they are visited: depth
-- first, each at its first visit, and zeros never
pub record AreReached (r : Repository) (before target : List ℕ) (ids : List (List ℕ)) : Type 0 where
  pub known : List (List ℕ)
  pub from_before : Ends r [] (before ∷ []) known
  pub from_target : Ends r known (target ∷ []) (known ++ ids)
