use Rattle.std.proofs.Common.{◌≡◌}
use Rattle.keeper_directory.proofs.folders.Folder.needed.Given as goal

abbrev pub invariant-names : goal.invariant-names
invariant-names g l = l.self.hold ≡ l.fn.self.hold
