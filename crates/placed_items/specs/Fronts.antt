-- How two maps tell the place of an id in a list: one by the first four bytes of ids, and one by whole ids, for those
-- whose front has another's place. Which id stands at a place the list itself tells.
use Rattle.std.specs.Prelude.{◌≡◌, ◌==◌, ◌⊎◌, ℕ, Bool, false, List, Option, Some, None, if◌then◌else◌}
use Rattle.std.specs.Prelude.{slice_get, take}
use Rattle.std.specs.BTreeMap as tree
use Rattle.std.specs.Option.{option_map, option_or}
use Rattle.std.specs.Ordering.{is_eq}
use Rattle.std.specs.Str.{bytes_eq}
use Rattle.octets.specs.BytesMap.{by_bytes}
use Rattle.placed_items.specs.Places.{place_of}

-- the place that a tree has under a key
abbrev pub place_in : tree.BTreeMap (List ℕ) ℕ → List ℕ → Option ℕ
place_in places = tree.get by_bytes places

-- the first four bytes of an id
abbrev pub front_of : List ℕ → List ℕ
front_of id = take 4 id

-- whether an item is there and stands under the id
abbrev pub stands_under : {T : Type 0} → (T → List ℕ) → Option T → List ℕ → Bool
stands_under id None wanted = false
stands_under id (Some item) wanted = bytes_eq (id item) wanted

-- the place that a front has, where an item of the id stands there
abbrev pub own_place : {T : Type 0} → (T → List ℕ) → List T → Option ℕ → List ℕ → Option ℕ
own_place id items None wanted = None
own_place id items (Some n) wanted = if stands_under id (slice_get items n) wanted then Some n else None

-- the place that both maps tell of an id
abbrev pub told_place : {T : Type 0} → (T → List ℕ) → List T → (fronts wholes : List ℕ → Option ℕ) → List ℕ → Option ℕ
told_place id items fronts wholes wanted =
    option_or (wholes wanted) (own_place id items (fronts (front_of wanted)) wanted)

-- both maps tell the first place of each id, and at the place of a front stands an item whose id begins with it
pub record AreTold {T : Type 0} (id : T → List ℕ) (items : List T) (fronts wholes : List ℕ → Option ℕ) : Type 0
  where
    pub places : (wanted : List ℕ) → told_place id items fronts wholes wanted ≡ place_of id items wanted
    pub begun : (front : List ℕ) (n : ℕ) → fronts front ≡ Some n
        → option_map (λ item. front_of (id item)) (slice_get items n) ≡ Some front

-- a place, unless it is this one
abbrev pub other_than : ℕ → Option ℕ → Option ℕ
other_than n None = None
other_than n (Some m) = if m == n then None else Some m

-- a map has a place under a key, and else what it had
abbrev pub HasAlso : (was now : List ℕ → Option ℕ) → List ℕ → ℕ → Type 0
HasAlso was now key n = (q : List ℕ) → now q ≡ (if is_eq (by_bytes key q) then Some n else was q)

-- a map has not this place under a key any more, and else what it had
abbrev pub HasLetGo : (was now : List ℕ → Option ℕ) → List ℕ → ℕ → Type 0
HasLetGo was now key n = (q : List ℕ) → now q ≡ (if is_eq (by_bytes key q) then other_than n (was q) else was q)

abbrev pub IsAsBefore : (was now : List ℕ → Option ℕ) → Type 0
IsAsBefore was now = (q : List ℕ) → now q ≡ was q

-- a place was put under the front of an id, which had none
pub record IsPutInFront (had_fronts had_wholes now_fronts now_wholes : List ℕ → Option ℕ) (id : List ℕ) (n : ℕ)
    : Type 0 where
  pub free : had_fronts (front_of id) ≡ None
  pub fronts : HasAlso had_fronts now_fronts (front_of id) n
  pub wholes : IsAsBefore had_wholes now_wholes

-- a place was put under a whole id
pub record IsPutWhole (had_fronts had_wholes now_fronts now_wholes : List ℕ → Option ℕ) (id : List ℕ) (n : ℕ)
    : Type 0 where
  pub fronts : IsAsBefore had_fronts now_fronts
  pub wholes : HasAlso had_wholes now_wholes id n

abbrev pub IsPut : (had_fronts had_wholes now_fronts now_wholes : List ℕ → Option ℕ) → List ℕ → ℕ → Type 0
IsPut had_fronts had_wholes now_fronts now_wholes id n =
    IsPutInFront had_fronts had_wholes now_fronts now_wholes id n
    ⊎ IsPutWhole had_fronts had_wholes now_fronts now_wholes id n
