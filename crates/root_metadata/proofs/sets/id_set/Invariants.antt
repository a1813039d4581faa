use Rattle.std.proofs.Common.{◌≡◌, ◌++◌, drop}
use Rattle.root_metadata.specs.Shapes.{into_set, set_of}
use Rattle.root_metadata.proofs.sets.id_set.Given as goal

abbrev pub invariant-ids : goal.invariant-ids
invariant-ids l = into_set l.set.keys (drop l.id-index l.ids) ≡ set_of l.ids

abbrev pub invariant-kept : goal.invariant-kept
invariant-kept l = l.list ++ l.id-iterator ≡ l.initial.id-iterator
