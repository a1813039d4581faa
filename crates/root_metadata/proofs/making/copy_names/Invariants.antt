use Rattle.std.proofs.Common.{◌≡◌, map, take}
use Rattle.root_metadata.proofs.making.copy_names.Given as goal

abbrev pub invariant-persons : goal.invariant-persons
invariant-persons l = l.names ≡ map (λ p. p.name) (take l.person-index l.persons)
