use Rattle.std.proofs.Common.{◌≡◌, not, take}
use Rattle.std.specs.List.{filter}
use Rattle.git_object.specs.Objects.{pair_id}
use Rattle.judging.specs.Engines.{has_taken}
use Rattle.desk_core.proofs.looking.new_objects.Given as goal

abbrev pub invariant-objects : goal.invariant-objects
invariant-objects l = l.kept ≡ filter (λ pair. not (has_taken l.engine (pair_id pair))) (take l.object-index l.objects)
