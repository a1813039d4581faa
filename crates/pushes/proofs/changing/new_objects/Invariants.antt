use Rattle.std.proofs.Common.{◌≡◌, take}
use Rattle.std.specs.List.{filter}
use Rattle.pushes.specs.Steps.{is_new}
use Rattle.pushes.proofs.changing.new_objects.Given as goal

abbrev pub invariant-objects : goal.invariant-objects
invariant-objects l = l.kept ≡ filter (is_new l.rows) (take l.object-index l.objects)
