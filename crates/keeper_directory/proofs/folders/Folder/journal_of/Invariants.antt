use Rattle.std.proofs.Common.{◌≡◌}
use Rattle.keeper_directory.proofs.folders.Folder.journal_of.Given as goal

abbrev pub invariant-objects : goal.invariant-objects
invariant-objects g l = l.self.hold ≡ l.fn.self.hold
