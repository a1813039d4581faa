use Rattle.std.proofs.Common.{ap, sym, ◌∙◌}
use Rattle.std.specs.FinMap.{get, insert}
use Rattle.std.proofs.lemmas.Cmp.{nat_list_cmp_total}
use Rattle.octets.specs.BytesMap.{map_of}
use Rattle.keeper_api.proofs.Halving.{passed, taken_kept, taken_new}
use Rattle.keeper_api.proofs.Trees.{exact_bytes, get_tree, tree_map_insert}
use Rattle.keeper_api.proofs.memory_trees.keep_half.Goals as goal
use Rattle.keeper_api.proofs.memory_trees.keep_half.Goals.{then-is_taken+in_ok-copy+in_ok-insert+in-None, else-is_taken}

pub objects-preserved : goal.objects-preserved
objects-preserved c = elim c.if-is_taken.branch [
  | then-is_taken+in_ok-copy+in_ok-insert+in-None w ↦
      let pairs = c.args.objects.now in
      let i = c.objects.object-index in
      let pair = c.object-item.result in
      let kept = map_of c.objects.tree in
      let more = map_of c.if-is_taken.tree in
      let added = ap map_of w.tree-is
      ∙ tree_map_insert nat_list_cmp_total exact_bytes c.objects.tree w.insert.new.self w.id.result w.in_ok-copy.copy w.in_ok-insert.ensures.updates.0
      ∙ (λ j. insert kept (w.id.ensures j) (w.in_ok-copy.ensures j)) in
      let absent = ap (get kept) (sym w.id.ensures) ∙ get_tree nat_list_cmp_total c.objects.tree w.id.result ∙ sym w.in_ok-insert.ensures.old ∙ w.in-None.is in
      record {
        kept = taken_kept c.objects.is_taken pairs i pair kept more w.if-is_taken.true c.objects-test.true c.object-item.is added ∙ c.objects.invariant.kept;
        new = λ rest. c.objects.invariant.new (taken_new c.objects.is_taken pairs i pair kept more w.if-is_taken.true c.objects-test.true c.object-item.is added absent rest);
      }
  | else-is_taken w ↦
      let skips = passed c.objects.is_taken c.args.objects.now c.objects.object-index c.object-item.result w.if-is_taken.false c.objects-test.true c.object-item.is in
      rw (w.tree-is, skips) c.objects.invariant
]
