use Rattle.std.proofs.Common.{length}
use Rattle.git_object.specs.Trees.{IsTreeFront}
use Rattle.git_object.proofs.trees.Tree.read.Given as goal

abbrev pub invariant-entries : goal.invariant-entries
invariant-entries l = IsTreeFront l.entries l.body l.rest

abbrev pub decreases-entries : goal.decreases-entries
decreases-entries l = length l.rest
