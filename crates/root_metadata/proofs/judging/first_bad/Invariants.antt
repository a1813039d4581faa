use Rattle.std.proofs.Common.{◌≡◌, [], drop, take}
use Rattle.root_metadata.specs.Judged.{first_wrong}
use Rattle.root_metadata.specs.Lookups.{is_bad_beside}
use Rattle.root_metadata.proofs.judging.first_bad.Given as goal

abbrev pub invariant-persons : goal.invariant-persons
invariant-persons l = (first_wrong (is_bad_beside l.known) (take l.at l.persons) (drop l.at l.persons) ≡ first_wrong (is_bad_beside l.known) [] l.persons) × (l.at ≡ l.person-index)
