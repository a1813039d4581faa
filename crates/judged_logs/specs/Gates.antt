-- A log that grows behind a gate: an entry that has a fault is not taken.
use Rattle.std.specs.Prelude.{◌≡◌, ◌++◌, ◌<◌, ◌≤◌, ℕ, true, List, [], ◌∷◌, length, map, Some, None}
use Rattle.git_object.specs.Repository.{Repository}
use Rattle.rsl_chain.specs.Entries.{Taken}
use Rattle.git_object.specs.References.{policy_name}
use Rattle.judging.specs.Logs.{authorised, entry_at, fault_of, is_entry_of}
use Rattle.judging.specs.Rules.{Rules}
use Rattle.judging.specs.Verdicts.{IsJudged}
use Rattle.judging.specs.declared.verdicts.Verdict.TheVariants.{Violation}
use Rattle.keeper_api.specs.Growing.{Larger}

-- the entries, all to be judged in one repository
abbrev pub all_in : Repository → List Taken → List Taken
all_in r log = map (λ t. record { entry = t.entry; repository = r }) log

module _ {P F : Type 0} (rules : Rules P F) where
  -- no reference has a violation, whatever its value is
  abbrev pub HasNoViolation : List Taken → Type 0
  HasNoViolation log = (name kept : List ℕ) (number : ℕ) (fault : F)
      → IsJudged rules log name kept (Violation number fault) → ⊥

  -- every entry for the policy is an epoch
  abbrev pub AreEpochs : List Taken → Type 0
  AreEpochs log = (i : ℕ) → 0 < i → i ≤ length log → is_entry_of (entry_at log i) policy_name ≡ true
      → authorised rules log i ≡ true

  -- an entry without fault is taken, in a larger repository
  pub record TakesLawful (log : List Taken) (r : Repository) (t : Taken) : Type 0 where
    pub larger : Larger r t.repository
    pub lawful : fault_of rules log (Some t) ≡ None

  -- the entries are taken one after the other, behind this log in this repository
  abbrev pub AreTaken : List Taken → Repository → List Taken → Type 0
  AreTaken log r [] = Unit {0}
  AreTaken log r (t ∷ ts) = TakesLawful log r t × AreTaken (log ++ t ∷ []) t.repository ts

-- the repository behind them
abbrev pub repository_after : Repository → List Taken → Repository
repository_after r [] = r
repository_after r (t ∷ ts) = repository_after t.repository ts
