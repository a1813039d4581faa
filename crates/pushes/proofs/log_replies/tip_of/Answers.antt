use Rattle.std.proofs.Common.{◌≡◌, ◌-◌, List, Some, length, subst}
use Rattle.std.specs.Prelude.{slice_get}
use Rattle.pushes.specs.declared.rows.Row.{Row}
use Rattle.pushes.proofs.RowLemmas.{tip_some}
use Rattle.pushes.proofs.log_replies.tip_of.Goals as goal

pub returns-in-Some : goal.returns-in-Some
returns-in-Some c =
    tip_some c.args.rows.now c.in-Some.row.now
    (subst (λ (rows : List Row). Some c.in-Some.row.now ≡ slice_get rows (length rows - 1)) c.as_slice.ensures c.in-Some.ensures.value)
