use Rattle.std.proofs.Common.{◌≡◌, List, Option, Some, IfSome, subst, sym}
use Rattle.std.specs.BTreeMap as tree
use Rattle.git_object.specs.declared.trees.TreeEntry.{TreeEntry}
use Rattle.octets.specs.BytesMap.{by_bytes}
use Rattle.tree_paths.specs.Known.{AreKnown}
use Rattle.tree_paths.specs.Readings.{Trees}
use Rattle.tree_paths.proofs.Rows.{holds_of, kept_tree}
use Rattle.tree_paths.proofs.known_trees.KnownTrees.tree_at.Goals as goal

pub returns : goal.returns
returns c =
    let row = c.in_ok-row.row.now in
    let there : tree.get by_bytes c.args.self.now.rows c.args.id.now ≡ Some row = sym c.in_ok-row.ensures.value in
    subst (λ (kept : Option (List TreeEntry)). IfSome kept (λ entries. (trees : Trees) → AreKnown trees c.args.self.now → trees c.args.id.now ≡ Some entries)) (sym c.as_ref.ensures.value)
    (kept_tree c.args.self.now c.args.id.now row.entries (λ trees are. (holds_of trees c.args.id.now row (are c.args.id.now row there)).entries))
