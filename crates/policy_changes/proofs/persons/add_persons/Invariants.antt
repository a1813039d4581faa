use Rattle.std.proofs.Common.{◌≡◌, take}
use Rattle.std.specs.List.{fold}
use Rattle.policy_changes.specs.Names.{with_name}
use Rattle.policy_changes.specs.Persons.{holders}
use Rattle.policy_changes.proofs.persons.add_persons.Given as goal

abbrev pub invariant-persons : goal.invariant-persons
invariant-persons l = l.names ≡ fold with_name l.fn.names (holders l.keys (take l.person-index l.persons))
