use Rattle.std.proofs.Common.{ℕ, ◌+◌, ◌*◌, ◌^◌, ◌<◌, List, [], slice_index_or, sym, ◌∙◌, ap, arith}
use Rattle.lms_keys.specs.LmsType.{height}
use Rattle.lms_keys.specs.Tree.{inner_value, tree_node}
use Rattle.lms_keys.proofs.Growing.{node-inner}
use Rattle.lms_keys.proofs.secret_key.node_value.Goals as goal

pub returns : goal.returns
returns c =
    let inner : c.args.node < 2 ^ height c.args.lms = c.requires.high in
    let left = c.requires.below.each (2 * c.args.node) (omega arith) (omega (arith, inner)) in
    let right = c.requires.below.each (2 * c.args.node + 1) (omega arith) (omega (arith, inner)) in
    c.inner_value.ensures
    ∙ ap (λ (l : List ℕ). inner_value c.args.i.now c.args.node l (slice_index_or c.args.nodes.now (2 * c.args.node + 1) [])) left
    ∙ ap (λ (l : List ℕ). inner_value c.args.i.now c.args.node (tree_node c.args.ots (height c.args.lms) c.args.i.now c.args.seed.now (2 * c.args.node)) l) right
    ∙ sym (node-inner c.args.ots (height c.args.lms) c.args.i.now c.args.seed.now c.args.node c.requires.low inner)
