use Rattle.std.proofs.Common.{ap, cond, ℕ, List, Some, ◌∙◌}
use Rattle.std.specs.BTreeMap as tree
use Rattle.std.specs.Ordering.{is_eq}
use Rattle.octets.specs.BytesMap.{by_bytes}
use Rattle.keeper_layers.proofs.Placing.{place_put}
use Rattle.keeper_layers.proofs.indexing.places_of.Goals as goal

pub loop-at-preserved : goal.loop-at-preserved
loop-at-preserved c =
    place_put c.args.objects.now c.loop-at.at c.index-objects-at.result c.loop-at.places c.put_place.new.places c.loop-at-test.true c.index-objects-at.is
    c.loop-at.invariant
    (λ q. c.in_ok-put_place.ensures q ∙ ap (λ (k : List ℕ). cond (is_eq (by_bytes k q)) (Some c.loop-at.at) (tree.get by_bytes c.loop-at.places q)) c.id.ensures)
