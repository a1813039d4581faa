use Rattle.std.proofs.Common.{◌≡◌}
use Rattle.keeper_directory.proofs.folders.Folder.names.Given as goal

abbrev pub invariant-loop : goal.invariant-loop
invariant-loop g l = l.self.hold ≡ l.fn.self.hold
