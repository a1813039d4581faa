use Rattle.std.proofs.Common.{None, cond, sym, ap, ◌∙◌}
use Rattle.std.specs.BTreeMap as tree
use Rattle.std.specs.BTreeMap.{is_at}
use Rattle.std.specs.BTreeSet as set
use Rattle.std.specs.List.{list_any}
use Rattle.keeper_api.proofs.Removing.{nothing_left, removed_more}
use Rattle.keeper_api.proofs.tree_edits.remove_all.Goals as goal

pub keys-preserved : goal.keys-preserved
keys-preserved g c = λ q.
    ap (cond (set.contains g.K.Ord.cmp c.pop_first.new.self q) None) (c.remove.ensures.updates.0 q)
    ∙ removed_more g.met.K.Ord.total c.in-Some.key q (set.contains g.K.Ord.cmp c.pop_first.new.self q) (tree.get g.K.Ord.cmp c.keys.map q)
    ∙ ap (λ keys. cond (list_any (is_at (g.K.Ord.cmp q)) keys) None (tree.get g.K.Ord.cmp c.keys.map q)) (sym c.in-Some.ensures.removal)
    ∙ c.keys.invariant q

pub returns : goal.returns
returns g c = λ q.
    ap (λ keys. cond (list_any (is_at (g.K.Ord.cmp q)) keys) None (tree.get g.K.Ord.cmp c.keys.map q)) (sym (nothing_left c.keys.keys.keys c.in_default.ensures.variant.1))
    ∙ c.keys.invariant q
