-- What is kept of entries: the lanes of references, targets in the order of numbers, numbers by id, and the faults of
-- those that were refused.
use Rattle.std.specs.Prelude.{◌≡◌, ◌≢◌, ◌==◌, ◌-◌, ◌+◌, ◌++◌, ℕ, List, [], ◌∷◌, length, Option, Some, None, is_some}
use Rattle.std.specs.Prelude.{if◌then◌else◌, refl}
use Rattle.std.specs.BTreeMap.{is_at}
use Rattle.std.specs.Coded.{Coded, code_by, coded×, coded_list, coded_ℕ}
use Rattle.std.specs.FinMap.{code}
use Rattle.std.specs.List.{slice_get}
use Rattle.std.specs.Map.{lookup}
use Rattle.std.specs.Ordering.{nat_cmp}
use Rattle.std.specs.Str.{bytes_eq}
use Rattle.octets.specs.BytesMap.{BytesMap, by_bytes}
use Rattle.git_object.specs.Ids.{zeros}
use Rattle.recovery.specs.Lanes.{Lane, lane_coded, lane_of, with_number}

pub record Kept (F : Type 0) : Type 0 where
  pub marks : BytesMap Lane
  pub targets : List (List ℕ)
  pub places : List (List ℕ × ℕ)
  pub faults : List (ℕ × F)

abbrev pub kept_coded : {F : Type 0} → Coded F → Coded (Kept F)
kept_coded {F} fault =
    code_by (BytesMap Lane × (List (List ℕ) × (List (List ℕ × ℕ) × List (ℕ × F))))
    (coded× (code (coded_list coded_ℕ) lane_coded)
    (coded× (coded_list (coded_list coded_ℕ))
    (coded× (coded_list (coded× (coded_list coded_ℕ) coded_ℕ)) (coded_list (coded× coded_ℕ fault)))))
    (λ k. (k.marks, (k.targets, (k.places, k.faults)))) (λ p. record {
      marks = p.0;
      targets = p.1.0;
      places = p.1.1.0;
      faults = p.1.1.1;
    }) (λ _. refl)

-- the number of the entry of an id
abbrev pub place_of : {F : Type 0} → Kept F → List ℕ → Option ℕ
place_of kept id = lookup (is_at (by_bytes id)) kept.places

-- the fault of a number
abbrev pub kept_fault : {F : Type 0} → Kept F → ℕ → Option F
kept_fault kept number = lookup (is_at (nat_cmp number)) kept.faults

-- the target of a number
abbrev pub kept_target : {F : Type 0} → Kept F → ℕ → Option (List ℕ)
kept_target kept number = if number == 0 then None else slice_get kept.targets (number - 1)

-- the number of the next entry
abbrev pub next_number : {F : Type 0} → Kept F → ℕ
next_number kept = length kept.targets + 1

module _ {F : Type 0} where
  -- all is answered as before; a fault is that of an entry only where its number is
  pub record IsSame (was now : Kept F) : Type 0 where
    pub lanes : (name : List ℕ) → lane_of now.marks name ≡ lane_of was.marks name
    pub target : now.targets ≡ was.targets
    pub place : (id : List ℕ) → place_of now id ≡ place_of was id
    pub fault : (number : ℕ) → number ≢ next_number was → kept_fault now number ≡ kept_fault was number

  -- the next number is that of this id
  abbrev pub IsPut : List ℕ → Kept F → Kept F → Type 0
  IsPut new was now = (id : List ℕ)
      → place_of now id ≡ (if bytes_eq new id then Some (next_number was) else place_of was id)

  -- an annotation more
  pub record HasNote (id : List ℕ) (was now : Kept F) : Type 0 where
    pub lanes : (name : List ℕ) → lane_of now.marks name ≡ lane_of was.marks name
    pub target : now.targets ≡ was.targets ++ zeros ∷ []
    pub place : IsPut id was now
    pub fault : (number : ℕ) → kept_fault now number ≡ kept_fault was number

  -- an entry of a reference more, and its fault
  pub record HasReference (id name target : List ℕ) (fault : Option F) (was now : Kept F) : Type 0 where
    pub lanes : (other : List ℕ) → lane_of now.marks other
        ≡ (if bytes_eq name other then with_number (next_number was) (is_some fault) (lane_of was.marks other)
        else lane_of was.marks other)
    pub targets_now : now.targets ≡ was.targets ++ target ∷ []
    pub place : IsPut id was now
    pub new_fault : (f : F) → fault ≡ Some f → kept_fault now (next_number was) ≡ Some f
    pub old_fault : (number : ℕ) → number ≢ next_number was → kept_fault now number ≡ kept_fault was number

  -- only the lanes have changed, each so
  pub record HasLanes (f : List ℕ → Lane → Lane) (was now : Kept F) : Type 0 where
    pub lanes : (name : List ℕ) → lane_of now.marks name ≡ f name (lane_of was.marks name)
    pub target : now.targets ≡ was.targets
    pub place : now.places ≡ was.places
    pub fault : now.faults ≡ was.faults
