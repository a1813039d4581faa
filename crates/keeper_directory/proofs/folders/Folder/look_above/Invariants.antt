use Rattle.std.proofs.Common.{◌≡◌}
use Rattle.keeper_directory.proofs.folders.Folder.look_above.Given as goal

abbrev pub invariant-loop-place : goal.invariant-loop-place
invariant-loop-place g l = l.self.hold ≡ l.fn.self.hold
