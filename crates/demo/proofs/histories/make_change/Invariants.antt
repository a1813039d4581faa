use Rattle.demo.specs.Standing.{IsAt}
use Rattle.demo.proofs.histories.make_change.Given as goal

abbrev pub invariant-changes : goal.invariant-changes
invariant-changes l = IsAt l.done l.history
