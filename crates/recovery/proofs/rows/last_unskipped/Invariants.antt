use Rattle.std.proofs.Common.{◌≤◌, ℕ, List, length}
use Rattle.recovery.specs.Rows.{IsAfter}
use Rattle.recovery.specs.declared.rows.Row.{Row}
use Rattle.recovery.proofs.rows.last_unskipped.Given as goal

pub record Steps (rows : List Row) (from last : ℕ) : Type 0 where
  pub within : last ≤ length rows
  pub after : (slot : ℕ) → IsAfter slot rows (length rows) from → IsAfter slot rows (length rows) last

abbrev pub invariant-rows : goal.invariant-rows
invariant-rows l = Steps l.rows l.fn.from l.last

abbrev pub decreases-rows : goal.decreases-rows
decreases-rows l = l.last
