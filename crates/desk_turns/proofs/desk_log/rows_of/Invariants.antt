use Rattle.std.proofs.Common.{◌≡◌, map, take}
use Rattle.pushes.specs.Steps.{by_nobody}
use Rattle.desk_turns.proofs.desk_log.rows_of.Given as goal

abbrev pub invariant-ids : goal.invariant-ids
invariant-ids l = l.rows ≡ map by_nobody (take l.id-index l.ids)
