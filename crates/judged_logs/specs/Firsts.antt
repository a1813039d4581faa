-- By which entry of a log another is skipped or rescued: the first that does it.
use Rattle.std.specs.Prelude.{◌&&◌, ℕ, Bool, List, length, Option, None, if◌then◌else◌, nat_lt}
use Rattle.std.specs.List.{filter}
use Rattle.rsl_chain.specs.Entries.{Taken}
use Rattle.recovery.specs.Lanes.{first_of}
use Rattle.judging.specs.Logs.{authorised, before, entry_at, numbers, rescues, skips}
use Rattle.judging.specs.Rules.{Rules}

module _ {P F : Type 0} (rules : Rules P F) (log : List Taken) where
  -- annotation a is later than entry i, and skips it
  abbrev pub skips_at : ℕ → ℕ → Bool
  skips_at i a = nat_lt i a && skips rules (before log a) (entry_at log a) (entry_at log i)

  -- the first annotation that skips entry i
  abbrev pub skipper_of : ℕ → Option ℕ
  skipper_of i = first_of (filter (skips_at i) (numbers (length log)))

  -- the first entry that rescues entry b, where that is refused
  abbrev pub rescuer_of : ℕ → Option ℕ
  rescuer_of b = if authorised rules log b then None else first_of (filter (λ f. rescues rules log f b)
      (numbers (length log)))
