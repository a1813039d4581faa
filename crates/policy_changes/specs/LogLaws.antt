-- What holds of the names that a log speaks of.
use Rattle.std.specs.Prelude.{◌≡◌, ◌++◌, ◌∷◌, [], ℕ, false, List}
use Rattle.std.specs.List.{list_any}
use Rattle.rsl_chain.specs.Entries.{Taken, is_of}
use Rattle.policy_changes.specs.Names.{has_name, names_of}

-- no two of them are alike
abbrev pub AreApart : List (List ℕ) → Type 0
AreApart [] = Unit {0}
AreApart (name ∷ names) = (has_name names name ≡ false) × AreApart names

-- a name is there exactly where some entry records a target of it, no two are alike, and with more entries at the end
-- those that are there stay where they are
pub record AreNames (log : List Taken) : Type 0 where
  pub spoken : (name : List ℕ) → has_name (names_of log) name ≡ list_any (λ t. is_of t.entry.body name) log
  pub apart : AreApart (names_of log)
  pub stay : (more : List Taken) → (rest : List (List ℕ)) × (names_of (log ++ more) ≡ names_of log ++ rest)
