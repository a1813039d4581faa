use Rattle.std.proofs.Common.{◌∙◌}
use Rattle.std.specs.FinMap.{empty, insert}
use Rattle.std.proofs.lemmas.Cmp.{nat_list_cmp_total}
use Rattle.octets.specs.BytesMap.{map_of}
use Rattle.keeper_api.proofs.Inserting.{one_more_object}
use Rattle.keeper_api.proofs.Trees.{exact_bytes, tree_map_insert}
use Rattle.keeper_api.proofs.memory_trees.tree_in_order.Goals as goal

pub objects-preserved : goal.objects-preserved
objects-preserved c =
    let added = tree_map_insert nat_list_cmp_total exact_bytes c.objects.tree c.insert.new.self c.id.result c.in_ok-copy.copy c.in_ok-insert.ensures.updates.0
    ∙ (λ i. insert (map_of c.objects.tree) (c.id.ensures i) (c.in_ok-copy.ensures i)) in
    one_more_object c.args.objects.now c.objects.object-index c.object-item.result empty (map_of c.objects.tree) (map_of c.insert.new.self) c.objects-test.true c.object-item.is added c.objects.invariant
