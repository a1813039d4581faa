use Rattle.std.proofs.Common.{◌≡◌, ◌/◌, ◌^◌}
use Rattle.lms_keys.specs.Tree.{climbed, sibling_in}
use Rattle.lms_keys.proofs.nodes.climb.Given as goal

abbrev pub invariant-levels : goal.invariant-levels
invariant-levels l = record {
  value : l.value ≡ climbed l.i l.leaf l.fn.value (sibling_in l.path) l.level;
  node : l.node ≡ l.leaf / 2 ^ l.level;
}
