use Rattle.std.proofs.Common.{◌≡◌, drop}
use Rattle.octets.specs.BytesMap.{map_of}
use Rattle.keeper_api.specs.Changes.{with_objects}
use Rattle.keeper_api.specs.Halves.{AreNew, half}
use Rattle.keeper_api.proofs.memory_trees.keep_half.Given as goal

abbrev pub invariant-objects : goal.invariant-objects
invariant-objects l = record {
  kept : with_objects (half l.is_taken (drop l.object-index l.objects)) (map_of l.tree) ≡ with_objects (half l.first l.objects) (map_of l.fn.tree);
  new : AreNew (half l.is_taken (drop l.object-index l.objects)) (map_of l.tree) → AreNew (half l.first l.objects) (map_of l.fn.tree);
}
