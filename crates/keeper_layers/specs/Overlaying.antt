-- What a change laid over a repository shows at an id.
use Rattle.std.specs.Prelude.{◌≡◌, ℕ, Bool, false, IsSome, List, Option, Some, None, option_and_then, slice_get}
use Rattle.std.specs.BTreeMap as tree
use Rattle.std.specs.FinMap.{get}
use Rattle.std.specs.Option.{option_map}
use Rattle.octets.specs.BytesMap.{BytesMap, by_bytes}
use Rattle.git_object.specs.Objects.{Pair}
use Rattle.git_object.specs.Repository.{Repository}
use Rattle.keeper_api.specs.Changes.{changed, with_objects}
use Rattle.keeper_api.specs.Keepers.{TellsOn}
use Rattle.keeper_api.specs.declared.changes.Change.{Change}

-- the object of the change where it has one, or else what is kept
abbrev pub shown : Option Pair → Option Pair → Option Pair
shown None kept = kept
shown (Some pair) kept = Some pair

-- whatever was kept, this is what these objects put at the id
abbrev pub FindsLast : List Pair → List ℕ → Option Pair → Type 0
FindsLast objects id found = (kept : BytesMap Pair) → get (with_objects objects kept) id ≡ shown found (get kept id)

-- a map has the place of the last object of each id
abbrev pub AreLast : List Pair → tree.BTreeMap (List ℕ) ℕ → Type 0
AreLast objects places = (id : List ℕ)
    → FindsLast objects id (option_and_then (slice_get objects) (tree.get by_bytes places id))

-- ---- telling

-- with a change laid over it
abbrev pub over : Change → Option Repository → Option Repository
over change told = option_map (changed change) told

abbrev some_over : (was now : Change) (before after : Option Repository) → (IsSome before → IsSome after)
    → IsSome (over was before) → IsSome (over now after)
some_over was now None None on some = some
some_over was now None (Some r) on some = on some
some_over was now (Some w) None on some = on some
some_over was now (Some w) (Some r) on some = some

-- where a store tells on, so does what is laid over it; what a stop may leave is not told
pub tells_over : (was now : Change) (before after : Option Repository) (told told_now clean clean_now : Bool)
    (count count_now : ℕ) → TellsOn before after told told_now clean clean_now count count_now
    → TellsOn (over was before) (over now after) false false clean clean_now count count_now
tells_over was now before after told told_now clean clean_now count count_now on = record {
  was_clean = on.was_clean;
  content = λ clean before_end same some. some_over was now before after (on.content clean before_end same) some;
  left = λ clean before_end same told. told;
}
