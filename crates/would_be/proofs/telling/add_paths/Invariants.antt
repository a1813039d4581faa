use Rattle.std.proofs.Common.{◌≡◌, ◌++◌, take}
use Rattle.would_be.specs.Would.{paths_told}
use Rattle.would_be.proofs.telling.add_paths.Given as goal

abbrev pub invariant-paths : goal.invariant-paths
invariant-paths l = l.faults ≡ l.fn.faults ++ paths_told l.rules l.signers (take l.path-index l.paths)
