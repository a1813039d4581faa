-- What holds of the account of a repository.
use Rattle.std.specs.Prelude.{◌≡◌, ◌≤◌, ◌<◌, ℕ, Bool, true, List, length, Option, Some}
use Rattle.git_object.specs.Repository.{Repository}
use Rattle.rsl_chain.specs.Entries.{Taken}
use Rattle.rsl_chain.specs.Logs.{IsBreakOf}
use Rattle.entry_rules.specs.RealRules.{real_rules}
use Rattle.accounts.specs.Accounts.{IsLineOf, IsToldVerdict}
use Rattle.accounts.specs.Rows.{epoch_of, opens_at}

-- a repository has one line at most for a number, and none where its log breaks
pub record OneLine : Type 0 where
  pub one : (anchor : Option (List (List ℕ))) (r : Repository) (number : ℕ) (a b : List ℕ)
      → IsLineOf anchor r number a → IsLineOf anchor r number b → a ≡ b
  pub or_break : (anchor : Option (List (List ℕ))) (r : Repository) (number : ℕ) (text id : List ℕ)
      → IsLineOf anchor r number text → IsBreakOf r id → ⊥

-- and one that tells the verdict on a reference
pub record OneVerdictLine : Type 0 where
  pub one : (anchor : Option (List (List ℕ))) (r : Repository) (name a b : List ℕ) (m n : Bool)
      → IsToldVerdict anchor r name a m → IsToldVerdict anchor r name b n → (a ≡ b) × (m ≡ n)

-- the epoch that is told is the greatest number of an entry that brought a policy into force
abbrev pub EpochGreatest : Type 0
EpochGreatest = (anchor : Option (List (List ℕ))) (log : List Taken) (k : ℕ)
    → epoch_of (real_rules anchor) log ≡ Some k
    → (0 < k) × (k ≤ length log) × (opens_at (real_rules anchor) log k ≡ true)
    × ((j : ℕ) → k < j → j ≤ length log → opens_at (real_rules anchor) log j ≡ true → ⊥)
