-- What holds of the entries by which others are skipped and rescued.
use Rattle.std.specs.Prelude.{◌≡◌, ◌<◌, ◌≤◌, ℕ, true, false, List, length, Option, Some, None}
use Rattle.rsl_chain.specs.Entries.{Taken}
use Rattle.judging.specs.Logs.{authorised, rescued, rescues, skipped}
use Rattle.judging.specs.Rules.{Rules}
use Rattle.judged_logs.specs.Firsts.{rescuer_of, skipper_of, skips_at}

module _ {P F : Type 0} (rules : Rules P F) (log : List Taken) where
  -- the entry that is told skips the other, and none before it does; where none is told it is not skipped
  pub record IsFirstSkip (i : ℕ) : Type 0 where
    pub some : (a : ℕ) → skipper_of rules log i ≡ Some a
        → (0 < a) × (a ≤ length log) × (skips_at rules log i a ≡ true)
        × ((j : ℕ) → 0 < j → j < a → skips_at rules log i j ≡ false)
    pub none : skipper_of rules log i ≡ None → skipped rules log i ≡ false

  -- the entry that is told rescues the other, which is refused, and none before it does; where none is told, one that
  -- is refused is not rescued
  pub record IsFirstRescue (b : ℕ) : Type 0 where
    pub refused : (f : ℕ) → rescuer_of rules log b ≡ Some f → authorised rules log b ≡ false
    pub some : (f : ℕ) → rescuer_of rules log b ≡ Some f
        → (0 < f) × (f ≤ length log) × (rescues rules log f b ≡ true)
        × ((j : ℕ) → 0 < j → j < f → rescues rules log j b ≡ false)
    pub none : rescuer_of rules log b ≡ None → authorised rules log b ≡ false → rescued rules log b ≡ false
