use Rattle.std.proofs.Common.{◌≡◌, ◌++◌, drop}
use Rattle.root_metadata.specs.Shapes.{into_set, set_of}
use Rattle.root_metadata.proofs.sets.name_set.Given as goal

abbrev pub invariant-names : goal.invariant-names
invariant-names l = into_set l.set.keys (drop l.name-index l.names) ≡ set_of l.names

abbrev pub invariant-kept : goal.invariant-kept
invariant-kept l = l.list ++ l.name-iterator ≡ l.initial.name-iterator
