use Rattle.std.proofs.Common.{length}
use Rattle.git_object.specs.Commits.{IsCommitFront}
use Rattle.git_object.proofs.commits.Commit.read.Given as goal

abbrev pub invariant-parents : goal.invariant-parents
invariant-parents l = IsCommitFront l.tree l.parents l.body l.rest

abbrev pub decreases-parents : goal.decreases-parents
decreases-parents l = length l.rest
