use Rattle.std.proofs.Common.{◌≡◌, None, cond, length}
use Rattle.std.specs.BTreeMap as tree
use Rattle.std.specs.BTreeSet as set
use Rattle.keeper_api.proofs.tree_edits.remove_all.Given as goal

abbrev pub invariant-keys : goal.invariant-keys
invariant-keys g l =
    (q : g.row.K.Denot) → cond (set.contains g.K.Ord.cmp l.keys q) None (tree.get g.K.Ord.cmp l.map q) ≡ cond (set.contains g.K.Ord.cmp l.fn.keys q) None (tree.get g.K.Ord.cmp l.fn.map q)

abbrev pub decreases-keys : goal.decreases-keys
decreases-keys g l = length l.keys.keys
