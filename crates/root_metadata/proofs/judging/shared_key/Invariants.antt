use Rattle.std.proofs.Common.{◌≡◌, [], drop, take}
use Rattle.root_metadata.specs.Judged.{first_wrong, shares_key}
use Rattle.root_metadata.proofs.judging.shared_key.Given as goal

abbrev pub invariant-persons : goal.invariant-persons
invariant-persons l = (first_wrong (shares_key) (take l.at l.persons) (drop l.at l.persons) ≡ first_wrong (shares_key) [] l.persons) × (l.at ≡ l.person-index)
