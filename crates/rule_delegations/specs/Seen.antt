-- Names that were seen.
use Rattle.std.specs.Prelude.{◌≡◌, ◌||◌, ◌++◌, ℕ, Bool, List, nat_le}
use Rattle.std.specs.BTreeSet.{contains}
use Rattle.octets.specs.BytesMap.{by_bytes}
use Rattle.rule_delegations.specs.declared.twice.Seen.{Seen}
use Rattle.rule_delegations.specs.Assembling.{times}

-- what was seen are these names, and what stands twice are those that did before, and those that are among them twice
pub record IsSeen (before : List ℕ → Bool) (seen : Seen) (names : List (List ℕ)) : Type 0 where
  pub once : (name : List ℕ) → contains by_bytes seen.once name ≡ nat_le 1 (times name names)
  pub twice : (name : List ℕ) → contains by_bytes seen.twice name ≡ (before name || nat_le 2 (times name names))

-- these names were noted
abbrev pub Notes : Seen → Seen → List (List ℕ) → Type 0
Notes old new names = (before : List ℕ → Bool) (had : List (List ℕ)) → IsSeen before old had
    → IsSeen before new (had ++ names)
