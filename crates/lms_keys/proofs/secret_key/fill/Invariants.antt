use Rattle.lms_keys.specs.Secret.{AreNodesFrom}
use Rattle.lms_keys.proofs.secret_key.fill.Given as goal

abbrev pub invariant-nodes : goal.invariant-nodes
invariant-nodes l = AreNodesFrom l.lms l.ots l.i l.seed l.nodes l.node
