use Rattle.std.proofs.Common.{◌≡◌, ◌++◌, take}
use Rattle.std.specs.List.{filter}
use Rattle.mirror.specs.Changes.{is_foreign}
use Rattle.mirror.proofs.changes.add_foreign.Given as goal

abbrev pub invariant-offered : goal.invariant-offered
invariant-offered l = l.refs ≡ l.fn.refs ++ filter is_foreign (take l.change-index l.offered)
