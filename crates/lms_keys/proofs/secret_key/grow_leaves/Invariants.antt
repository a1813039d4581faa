use Rattle.std.proofs.Common.{◌+◌, ◌*◌, ◌^◌}
use Rattle.lms_keys.specs.LmsType.{height}
use Rattle.lms_keys.specs.Secret.{AreNodesFrom}
use Rattle.lms_keys.proofs.secret_key.grow_leaves.Given as goal

abbrev pub invariant-groups : goal.invariant-groups
invariant-groups l = AreNodesFrom l.fn.lms l.ots l.i l.seed l.nodes (2 ^ height l.fn.lms + 8 * l.group)

abbrev pub invariant-lanes : goal.invariant-lanes
invariant-lanes l = AreNodesFrom l.fn.lms l.ots l.i l.seed l.nodes (2 ^ height l.fn.lms + 8 * l.group + l.lane)
