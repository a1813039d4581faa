-- The changes by which a store takes an offer.
use Rattle.std.specs.Prelude.{◌++◌, ◌∷◌, ◌&&◌, [], ℕ, Bool, true, List, Option, Some, None, not, if◌then◌else◌}
use Rattle.std.specs.List.{filter, flat_map}
use Rattle.std.specs.FinMap.{entries, get}
use Rattle.std.specs.Str.{bytes_eq}
use Rattle.octets.specs.BytesMap.{BytesMap}
use Rattle.git_object.specs.Objects.{Pair, kind_name, pair_id}
use Rattle.git_object.specs.Repository.{Repository}
use Rattle.keeper_api.specs.declared.changes.Change.{Change}
use Rattle.keeper_api.specs.declared.changes.RefChange.{RefChange}
use Rattle.mirror.specs.Names.{fork_name, is_own}

-- ---- objects
-- one kind and one body
abbrev pub is_same : Pair → Pair → Bool
is_same a b = bytes_eq (kind_name a.kind) (kind_name b.kind) && bytes_eq a.body b.body

-- what is kept is not what is offered
abbrev pub differs : Option Pair → Option Pair → Bool
differs None offered = true
differs (Some kept) None = true
differs (Some kept) (Some offered) = not (is_same kept offered)

-- what is offered at an id is not what is kept there
unfoldable pub is_new : BytesMap Pair → BytesMap Pair → List ℕ → Bool
is_new kept offered id = differs (get kept id) (get offered id)

-- those of these objects that are to be written, as all but them is kept as it is offered
abbrev pub new_objects : BytesMap Pair → BytesMap Pair → List Pair → List Pair
new_objects kept offered pairs = filter (λ pair. is_new kept offered (pair_id pair)) pairs

-- ---- references
-- that a reference goes, unless it is the mirror's own
abbrev pub going_one : List ℕ → List RefChange
going_one name = if is_own name then [] else (record { name = name; to = None }) ∷ []

abbrev pub going : BytesMap (List ℕ) → List RefChange
going refs = flat_map (λ (e : List ℕ × List ℕ). going_one e.0) (entries refs)

-- the change is of a reference that is not the mirror's own
abbrev pub is_foreign : RefChange → Bool
is_foreign change = not (is_own change.name)

-- ---- the changes
-- the offered objects that are not kept so; the references that are there go, and the offered ones come, but for the
-- mirror's own. What is offered at each id is told too
abbrev pub take_change : Change → BytesMap Pair → Repository → Change
take_change offered objects kept = record {
  objects = new_objects kept.objects objects offered.objects;
  refs = going kept.refs ++ filter is_foreign offered.refs;
}

-- the entry, and a reference to it
abbrev pub fork_change : ℕ → List ℕ → Pair → Change
fork_change number id entry = record {
  objects = entry ∷ [];
  refs = (record { name = fork_name number id; to = Some id }) ∷ [];
}
