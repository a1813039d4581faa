use Rattle.std.proofs.Common.{◌≡◌, map, take}
use Rattle.git_object.specs.Objects.{pair_id}
use Rattle.keeper_api.proofs.memory_trees.entries_of.Given as goal

abbrev pub invariant-loop-object : goal.invariant-loop-object
invariant-loop-object l = l.entries.items ≡ map (λ pair. (pair_id pair, pair)) (take l.object-index l.objects)
