-- What a change makes of a repository.
use Rattle.std.specs.Prelude.{ℕ, List, [], ◌∷◌, Option, Some, None}
use Rattle.std.specs.FinMap.{insert, remove}
use Rattle.octets.specs.BytesMap.{BytesMap}
use Rattle.git_object.specs.Objects.{Pair, pair_id}
use Rattle.git_object.specs.Repository.{Repository}
use Rattle.keeper_api.specs.declared.changes.Change.{Change}
use Rattle.keeper_api.specs.declared.changes.RefChange.{RefChange}
use Rattle.keeper_api.specs.declared.changes.RefValue.{RefValue}

-- each pair kept at its own id, one after the other
abbrev pub with_objects : List Pair → BytesMap Pair → BytesMap Pair
with_objects [] objects = objects
with_objects (pair ∷ pairs) objects = with_objects pairs (insert objects (pair_id pair) pair)

-- a name put at an id, or taken away
abbrev pub with_ref : List ℕ → Option (List ℕ) → BytesMap (List ℕ) → BytesMap (List ℕ)
with_ref name (Some id) refs = insert refs name id
with_ref name None refs = remove refs name

-- the reference changes made in order
abbrev pub with_refs : List RefChange → BytesMap (List ℕ) → BytesMap (List ℕ)
with_refs [] refs = refs
with_refs (change ∷ changes) refs = with_refs changes (with_ref change.name change.to refs)

-- the repository after a change
abbrev pub changed : Change → Repository → Repository
changed change r = record { objects = with_objects change.objects r.objects; refs = with_refs change.refs r.refs }

-- an entry of the references as a store answers it
abbrev pub ref_value : List ℕ × List ℕ → RefValue
ref_value e = record { name = e.0; id = e.1 }
