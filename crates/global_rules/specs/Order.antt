-- The order of a commit's ancestors: breadth first, parents in their order, each commit at its first visit.
use Rattle.std.specs.Prelude.{◌++◌, ◌+◌, ◌∷◌, [], ℕ, suc, zero, Bool, List, length, Option, Some, None}
use Rattle.std.specs.Prelude.{is_some, slice_get, if◌then◌else◌}
use Rattle.std.specs.List.{filter, list_any}
use Rattle.std.specs.Str.{bytes_eq}

-- the parents of the commit at an id, where there is a commit
abbrev pub Parents : Type 0
Parents = List ℕ → Option (List (List ℕ))

abbrev pub is_commit : Parents → List ℕ → Bool
is_commit parents id = is_some (parents id)

-- the commits among ids
abbrev pub commits : Parents → List (List ℕ) → List (List ℕ)
commits parents ids = filter (is_commit parents) ids

abbrev pub has_id : List (List ℕ) → List ℕ → Bool
has_id ids wanted = list_any (λ id. bytes_eq id wanted) ids

-- an id at the end, unless it is there
abbrev pub with_id : List (List ℕ) → List ℕ → List (List ℕ)
with_id met id = (if has_id met id then met else met ++ id ∷ [])

-- with those of the ids at the end that are not there yet
abbrev pub with_new : List (List ℕ) → List (List ℕ) → List (List ℕ)
with_new met [] = met
with_new met (id ∷ ids) = with_new (with_id met id) ids

abbrev pub parents_or_none : Option (List (List ℕ)) → List (List ℕ)
parents_or_none None = []
parents_or_none (Some ids) = ids

-- an id that is met has its turn: its parents are met; an id that leads to no commit has none
abbrev pub after_turn : Parents → List (List ℕ) → Option (List ℕ) → List (List ℕ)
after_turn parents met None = met
after_turn parents met (Some id) = with_new met (parents_or_none (parents id))

-- the ids that are met from a commit on after so many turns, in the order in which they are met and have their turns
unfoldable pub met : Parents → List ℕ → ℕ → List (List ℕ)
met parents root zero = root ∷ []
met parents root (suc n) = after_turn parents (met parents root n) (slice_get (met parents root n) n)

-- the commits among them: the order of ancestors, as far as it is known after so many turns
abbrev pub ancestors : Parents → List ℕ → ℕ → List (List ℕ)
ancestors parents root n = commits parents (met parents root n)

-- how many lines of parents the commits among these have
abbrev pub parent_lines : Parents → List (List ℕ) → ℕ
parent_lines parents [] = 0
parent_lines parents (id ∷ ids) = length (parents_or_none (parents id)) + parent_lines parents ids
