-- A repository: two finite maps, of objects by id and of ids by reference name.
use Rattle.std.specs.Prelude.{◌≡◌, ◌≤◌, ◌&&◌, ℕ, Bool, true, false, List, length, Option, Some, None, nat_le, unwrap_or}
use Rattle.std.specs.FinMap.{empty, get}
use Rattle.std.specs.Option.{option_and_then}
use Rattle.std.specs.Str.{bytes_eq}
use Rattle.octets.specs.BytesMap.{BytesMap}
use Rattle.git_object.specs.Ids.{zeros}
use Rattle.git_object.specs.Objects.{Pair, pair_id}

pub record Repository : Type 0 where
  pub objects : BytesMap Pair
  pub refs : BytesMap (List ℕ)

-- nothing is kept
abbrev pub empty_repository : Repository
empty_repository = record { objects = empty; refs = empty }

-- the most bytes that an object's body may have: 16 MiB
abbrev pub largest_body : ℕ
largest_body = 16777216

-- the pair is the object of this id: it is kept under its own id, and its body is within the limit
pub record IsObject (id : List ℕ) (pair : Pair) : Type 0 where
  pub own : pair_id pair ≡ id
  pub small : length pair.body ≤ largest_body

-- the object of an id in a repository
pub record HasObject (r : Repository) (id : List ℕ) (pair : Pair) : Type 0 where
  pub kept : get r.objects id ≡ Some pair
  pub is : IsObject id pair

-- the pair, where a test of it holds
abbrev pub if_own : Bool → Pair → Option Pair
if_own true pair = Some pair
if_own false pair = None

-- the pair, where it is the object of this id
abbrev pub own_pair : List ℕ → Pair → Option Pair
own_pair id pair = if_own (bytes_eq (pair_id pair) id && nat_le (length pair.body) largest_body) pair

-- the object that an id leads to, as a function
abbrev pub object_at : Repository → List ℕ → Option Pair
object_at r id = option_and_then (own_pair id) (get r.objects id)

-- the value of a reference name: its id, or zeros where the name is not there
abbrev pub value_of : Repository → List ℕ → List ℕ
value_of r name = unwrap_or (get r.refs name) zeros
