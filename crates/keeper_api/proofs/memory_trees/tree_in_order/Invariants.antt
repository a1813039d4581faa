use Rattle.std.proofs.Common.{◌≡◌, take}
use Rattle.std.specs.FinMap.{empty}
use Rattle.octets.specs.BytesMap.{map_of}
use Rattle.keeper_api.specs.Changes.{with_objects}
use Rattle.keeper_api.proofs.memory_trees.tree_in_order.Given as goal

abbrev pub invariant-objects : goal.invariant-objects
invariant-objects l = map_of l.tree ≡ with_objects (take l.object-index l.objects) empty
