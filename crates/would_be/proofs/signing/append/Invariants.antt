use Rattle.std.proofs.Common.{◌≡◌, ◌++◌, take}
use Rattle.would_be.proofs.signing.append.Given as goal

abbrev pub invariant-ids : goal.invariant-ids
invariant-ids l = l.ids ≡ l.fn.ids ++ take l.id-index l.more
