use Rattle.std.proofs.Common.{length}
use Rattle.git_object.specs.Commits.{HasParents}
use Rattle.git_object.proofs.commits.after_parents.Given as goal

abbrev pub invariant-parents : goal.invariant-parents
invariant-parents l = HasParents l.text l.rest

abbrev pub decreases-parents : goal.decreases-parents
decreases-parents l = length l.rest
