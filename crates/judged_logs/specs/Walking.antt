-- The way back over a reference's entries: from its prior to the prior of that one then, and so on.
use Rattle.std.specs.Prelude.{◌≡◌, ◌⊎◌, ◌==◌, ◌&&◌, ◌++◌, ◌<◌, ◌≤◌, ℕ, not, false, true, List, length, Option, Some}
use Rattle.std.specs.Prelude.{None, nat_le, nat_lt, reverse, if◌then◌else◌, option_and_then}
use Rattle.std.specs.List.{filter}
use Rattle.rsl_chain.specs.Entries.{Taken}
use Rattle.judging.specs.Logs.{entry_at, is_entry_of, numbers, skipped, target_at, unskipped}
use Rattle.judging.specs.Rules.{Rules}

-- a number from 1 on, or 0 where there is none
abbrev pub some_number : ℕ → Option ℕ
some_number at = if at == 0 then None else Some at

-- the way is at its front, or at an entry before b that is not skipped
abbrev pub HasEnded : {P F : Type 0} → Rules P F → List Taken → ℕ → ℕ → Type 0
HasEnded rules log b at = (at ≡ 0) ⊎ ((0 < at) × (at < b) × (skipped rules log at ≡ false))

module _ {P F : Type 0} (rules : Rules P F) (log : List Taken) (name : List ℕ) (b : ℕ) where
  -- the reference's entries up to a number that are not skipped by any of the log
  abbrev pub up_to : ℕ → List ℕ
  up_to n = filter (λ i. is_entry_of (entry_at log i) name && not (skipped rules log i)) (numbers n)

  -- the way has come to an entry of the reference, or to its front, at 0; this is the entry's target, and these are the
  -- numbers from b on that were found on the way, the last of the log first
  pub record IsWalked (at : ℕ) (from : Option (List ℕ)) (found : List ℕ) : Type 0 where
    pub within : at ≤ length log
    pub own : 0 < at → is_entry_of (entry_at log at) name ≡ true
    pub target : from ≡ option_and_then (target_at log) (some_number at)
    pub later : reverse (filter (nat_le b) (unskipped rules log name)) ≡ found ++ reverse (filter (nat_le b) (up_to at))
    pub earlier : filter (λ i. nat_lt i b) (unskipped rules log name) ≡ filter (λ i. nat_lt i b) (up_to at)
