-- The ids that a push needs, walked depth first, each at its first visit, and the first that is nowhere.
use Rattle.std.specs.Prelude.{◌≡◌, ◌<◌, ◌++◌, ◌∷◌, ◌||◌, ℕ, zero, suc, Bool, true, false, List, [], Option, Some, None}
use Rattle.std.specs.Prelude.{if◌then◌else◌}
use Rattle.std.specs.Str.{bytes_eq}
use Rattle.git_object.specs.Ids.{zeros}
use Rattle.git_object.specs.Objects.{Pair}
use Rattle.git_object.specs.Repository.{Repository, object_at}
use Rattle.rsl_chain.specs.declared.entries.EntryBody.{EntryBody}
use Rattle.rsl_chain.specs.declared.entries.EntryBody.TheVariants.{Reference, Annotation}
use Rattle.placed_items.specs.Places.{has_id}
use Rattle.pushes.specs.Pushes.{object_in}
use Rattle.pushes.specs.Naming.{names_of}

-- what was visited, and what is to be visited, the next one in front
pub record Walk : Type 0 where
  pub seen : List (List ℕ)
  pub ahead : List (List ℕ)

abbrev pub has : List (List ℕ) → List ℕ → Bool
has ids id = has_id (λ x. x) ids id

-- the id is not visited: it was visited before, or it is zeros
abbrev pub is_done : List (List ℕ) → List ℕ → Bool
is_done seen id = bytes_eq id zeros || has seen id

module _ (names : List ℕ → List (List ℕ)) where
  abbrev pub next_at : List (List ℕ) → List (List ℕ) → Walk
  next_at seen [] = record { seen = seen; ahead = [] }
  next_at seen (id ∷ ahead) =
      if is_done seen id then record { seen = seen; ahead = ahead }
      else record { seen = seen ++ id ∷ []; ahead = names id ++ ahead }

  abbrev pub next : Walk → Walk
  next w = next_at w.seen w.ahead

  -- the walk after so many steps
  abbrev pub after : ℕ → Walk → Walk
  after zero w = w
  after (suc n) w = next (after n w)

  -- at this step the id is visited
  pub record Visits (start : Walk) (n : ℕ) (id : List ℕ) : Type 0 where
    pub rest : List (List ℕ)
    pub front : (after n start).ahead ≡ id ∷ rest
    pub first : is_done (after n start).seen id ≡ false

  -- before this step nothing is visited that is missing
  abbrev pub NoneBefore : (List ℕ → Type 0) → Walk → ℕ → Type 0
  NoneBefore Missing start n = (m : ℕ) (x : List ℕ) → m < n → Visits start m x → Missing x → ⊥

  -- the first id visited that is missing
  pub record IsFirst (Missing : List ℕ → Type 0) (start : Walk) (id : List ℕ) : Type 0 where
    pub step : ℕ
    pub visits : Visits start step id
    pub missing : Missing id
    pub before : NoneBefore Missing start step

  -- the walk ends, and nothing is missing
  pub record HasAll (Missing : List ℕ → Type 0) (start : Walk) : Type 0 where
    pub step : ℕ
    pub ended : (after step start).ahead ≡ []
    pub none : NoneBefore Missing start step

-- ---- of a push

-- an entry of a reference needs its target
abbrev pub first_ids : EntryBody → List (List ℕ)
first_ids (Reference name target) = target ∷ []
first_ids (Annotation ids skip message) = []

abbrev pub start_of : EntryBody → Walk
start_of body = record { seen = []; ahead = first_ids body }

abbrev pub names_or : Option Pair → List (List ℕ)
names_or (Some pair) = names_of pair
names_or None = []

-- what the object of an id names, where the push has it
abbrev pub names_in : List Pair → List ℕ → List (List ℕ)
names_in objects id = names_or (object_in objects id)

-- the id is in neither the push nor the repository
pub record IsNowhere (objects : List Pair) (r : Repository) (id : List ℕ) : Type 0 where
  pub not_pushed : object_in objects id ≡ None
  pub not_kept : object_at r id ≡ None

-- the first needed id that is nowhere
abbrev pub IsIncomplete : List Pair → Repository → Walk → List ℕ → Type 0
IsIncomplete objects r start id = IsFirst (names_in objects) (IsNowhere objects r) start id

abbrev pub IsComplete : List Pair → Repository → Walk → Type 0
IsComplete objects r start = HasAll (names_in objects) (IsNowhere objects r) start

-- the id is needed, and not in the push
pub record IsNeeded (objects : List Pair) (start : Walk) (id : List ℕ) : Type 0 where
  pub step : ℕ
  pub visits : Visits (names_in objects) start step id
  pub not_pushed : object_in objects id ≡ None

-- ---- what holds of it

-- there is one answer
pub record OneAnswer : Type 0 where
  pub one : (objects : List Pair) (r : Repository) (start : Walk) (a b : List ℕ) → IsIncomplete objects r start a
      → IsIncomplete objects r start b → a ≡ b
  pub apart : (objects : List Pair) (r : Repository) (start : Walk) (a : List ℕ) → IsIncomplete objects r start a
      → IsComplete objects r start → ⊥
