use Rattle.std.proofs.Common.{◌≡◌, ◌∙◌, ℕ, Some, subst, sym}
use Rattle.std.specs.BTreeMap as tree
use Rattle.octets.specs.BytesMap.{by_bytes}
use Rattle.tree_paths.specs.Adding.{Adds}
use Rattle.tree_paths.specs.Walks.{steps}
use Rattle.tree_paths.proofs.Rows.{holds_of}
use Rattle.tree_paths.proofs.known_trees.KnownTrees.adds_at.Goals as goal

pub returns-clause-adds : goal.returns-clause-adds
returns-clause-adds c = λ trees front are len_is.
    let row = c.in_ok-row.row.now in
    let there : tree.get by_bytes c.args.self.now.rows c.args.id.now ≡ Some row = sym c.in_ok-row.ensures.value in
    subst (λ (left : ℕ). Adds trees (steps trees left front c.args.id.now) row.adds) c.if-row-left.false
    ((holds_of trees c.args.id.now row (are c.args.id.now row there)).adds front (c.if-row-len.false ∙ len_is))
