-- Which entries an annotation skips, by what is kept.
use Rattle.std.specs.Prelude.{◌≡◌, ℕ, Bool, true, false, not, List, Option, Some, None}
use Rattle.std.specs.List.{filter, list_any}
use Rattle.rsl_chain.specs.declared.entries.Entry.{Entry}
use Rattle.recovery.specs.Lanes.{Lane, is_in, lane_of}
use Rattle.judging.specs.Books.{Kept, place_of}
use Rattle.judging.specs.Rules.{Rules}

-- a test of ids and numbers that says what is kept: of the number of an id, whether the key may skip its reference's
-- entries, and of any other number nothing
pub record IsHit {P F : Type 0} (rules : Rules P F) (policy : P) (key : List ℕ) (kept : Kept F)
    (hit : List ℕ → ℕ → Bool) : Type 0 where
  pub some : (id : List ℕ) (n : ℕ) (name : List ℕ) → place_of kept id ≡ Some n
      → is_in n (lane_of kept.marks name).pushed ≡ true → hit id n ≡ rules.may_skip policy key name
  pub other : (id : List ℕ) (n : ℕ) → place_of kept id ≡ Some n
      → ((name : List ℕ) → is_in n (lane_of kept.marks name).pushed ≡ false) → hit id n ≡ false
  pub one : (id : List ℕ) (n m : ℕ) → place_of kept id ≡ Some n → hit id m ≡ true → m ≡ n
  pub none : (id : List ℕ) (m : ℕ) → place_of kept id ≡ None → hit id m ≡ false

-- the numbers that pass no test are left
abbrev pub without : (ℕ → Bool) → Lane → Lane
without test lane = record {
  pushed = lane.pushed;
  unskipped = filter (λ n. not (test n)) lane.unskipped;
  pending = lane.pending;
}

-- whether some id of the list hits a number
abbrev pub some_hit : (List ℕ → ℕ → Bool) → List (List ℕ) → ℕ → Bool
some_hit hit ids n = list_any (λ id. hit id n) ids

module _ {P F : Type 0} (rules : Rules P F) where
  -- the same, by the policy in force and the key that signed the annotation, where they are there
  abbrev pub IsHitOf : P → Option (List ℕ) → Kept F → (List ℕ → ℕ → Bool) → Type 0
  IsHitOf policy None kept hit = (id : List ℕ) (n : ℕ) → hit id n ≡ false
  IsHitOf policy (Some key) kept hit = IsHit rules policy key kept hit

  abbrev pub IsHitBy : Option P → Entry → Kept F → (List ℕ → ℕ → Bool) → Type 0
  IsHitBy None annotation kept hit = (id : List ℕ) (n : ℕ) → hit id n ≡ false
  IsHitBy (Some policy) annotation kept hit = IsHitOf policy (rules.skipper policy annotation) kept hit
