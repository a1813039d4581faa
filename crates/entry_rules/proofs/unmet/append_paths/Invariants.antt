use Rattle.std.proofs.Common.{◌≡◌, ◌++◌, take}
use Rattle.entry_rules.proofs.unmet.append_paths.Given as goal

abbrev pub invariant-paths : goal.invariant-paths
invariant-paths l = l.list ≡ l.fn.list ++ take l.path-index l.paths
