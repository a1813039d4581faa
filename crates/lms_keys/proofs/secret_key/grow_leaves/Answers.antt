use Rattle.std.proofs.Common.{◌≡◌, ℕ, ◌+◌, ◌-◌, ◌*◌, ◌^◌, List, sym, ◌∙◌, ap, arith}
use Rattle.lmots.specs.OneTime.{public_key}
use Rattle.lms_keys.specs.LmsType.{height}
use Rattle.lms_keys.specs.Tree.{leaf_value, tree_node}
use Rattle.lms_keys.proofs.Growing.{node-leaf}
use Rattle.lms_keys.proofs.Filling.{node_set}
use Rattle.lms_keys.proofs.secret_key.grow_leaves.Goals as goal

pub lanes-preserved : goal.lanes-preserved
lanes-preserved c =
    let first : ℕ = 8 * (c.groups.group - 1) in
    let lane : ℕ = c.lanes.lane - 1 in
    let node : ℕ = c.leaves-leaves.result + first + lane in
    let place : node ≡ 2 ^ height c.args.lms + first + lane = ap (λ (n : ℕ). n + first + lane) c.leaves-leaves.ensures in
    let q : first + lane ≡ node - 2 ^ height c.args.lms = omega (arith, place) in
    let value : c.leaf_value.result ≡ tree_node c.args.ots (height c.args.lms) c.args.i.now c.args.seed.now node =
    c.leaf_value.ensures
    ∙ ap (λ (key : List ℕ). leaf_value c.args.i.now node key)
    (c.public_of_eight-keys.ensures lane (omega arith) ∙ ap (λ (n : ℕ). public_key c.args.ots c.args.i.now n c.args.seed.now) q)
    ∙ sym (node-leaf c.args.ots (height c.args.lms) c.args.i.now c.args.seed.now node (omega (arith, place))) in
    node_set c.args.lms c.args.ots c.args.i.now c.args.seed.now c.lanes.nodes _ _ node c.leaf_value.result (omega arith) place (omega arith) value c.lanes.invariant
