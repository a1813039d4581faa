-- What is kept of each reference: three lists of entry numbers.
use Rattle.std.specs.Prelude.{◌==◌, ◌++◌, ◌<◌, ◌||◌, ◌&&◌, ℕ, Bool, not, List, [], ◌∷◌, Option, Some, None}
use Rattle.std.specs.Prelude.{if◌then◌else◌, nat_le, unwrap_or, refl}
use Rattle.std.specs.Coded.{Coded, code_by, coded×, coded_list, coded_ℕ}
use Rattle.std.specs.FinMap.{get}
use Rattle.std.specs.List.{All, filter, list_any}
use Rattle.octets.specs.BytesMap.{BytesMap}

-- the numbers that were pushed, those of them that are not skipped, and those that are pending
pub record Lane : Type 0 where
  pub pushed : List ℕ
  pub unskipped : List ℕ
  pub pending : List ℕ

-- a lane is told apart as the tuple of its lists
abbrev pub lane_coded : Coded Lane
lane_coded =
    code_by (List ℕ × (List ℕ × List ℕ))
    (coded× (coded_list coded_ℕ) (coded× (coded_list coded_ℕ) (coded_list coded_ℕ)))
    (λ l. (l.pushed, (l.unskipped, l.pending))) (λ p. record { pushed = p.0; unskipped = p.1.0; pending = p.1.1 })
    (λ _. refl)

abbrev pub empty_lane : Lane
empty_lane = record { pushed = []; unskipped = []; pending = [] }

-- what is kept of a name
abbrev pub lane_of : BytesMap Lane → List ℕ → Lane
lane_of marks name = unwrap_or (get marks name) empty_lane

-- one number more, pending or not
abbrev pub with_number : ℕ → Bool → Lane → Lane
with_number number pending lane = record {
  pushed = lane.pushed ++ number ∷ [];
  unskipped = lane.unskipped ++ number ∷ [];
  pending = (if pending then lane.pending ++ number ∷ [] else lane.pending);
}

-- the number skipped, if it was pushed
abbrev pub with_skip : ℕ → Lane → Lane
with_skip number lane = record {
  pushed = lane.pushed;
  unskipped = filter (λ n. not (n == number)) lane.unskipped;
  pending = lane.pending;
}

-- not strictly between the two
abbrev pub is_outside : ℕ → ℕ → ℕ → Bool
is_outside above below n = nat_le n above || nat_le below n

-- the numbers strictly between the two pending no longer
abbrev pub with_fix : ℕ → ℕ → Lane → Lane
with_fix above below lane = record {
  pushed = lane.pushed;
  unskipped = lane.unskipped;
  pending = filter (is_outside above below) lane.pending;
}

-- whether a number stands in a list
abbrev pub is_in : ℕ → List ℕ → Bool
is_in number numbers = list_any (λ n. n == number) numbers

-- whether a number was pushed and is skipped
abbrev pub is_skipped_in : ℕ → Lane → Bool
is_skipped_in number lane = is_in number lane.pushed && not (is_in number lane.unskipped)

abbrev pub first_of : {X : Type 0} → List X → Option X
first_of [] = None
first_of (x ∷ xs) = Some x

abbrev pub last_of : {X : Type 0} → List X → Option X
last_of [] = None
last_of (x ∷ []) = Some x
last_of (x ∷ y ∷ xs) = last_of (y ∷ xs)

-- the number is greater than all that were pushed, of whatever name
abbrev pub IsNew : ℕ → BytesMap Lane → Type 0
IsNew number marks = (name : List ℕ) → All (λ n. n < number) (lane_of marks name).pushed
