use Rattle.std.proofs.Common.{length}
use Rattle.ref_patterns.specs.Passing.{IsPassed}
use Rattle.ref_patterns.proofs.globs.pass_bytes.Given as goal

abbrev pub invariant-bytes : goal.invariant-bytes
invariant-bytes l = record { passed : IsPassed l.glob l.text l.rest l.left }

abbrev pub decreases-bytes : goal.decreases-bytes
decreases-bytes l = length l.rest
