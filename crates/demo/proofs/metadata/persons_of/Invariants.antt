use Rattle.std.proofs.Common.{◌≡◌, map, take}
use Rattle.std.specs.Prelude.{All}
use Rattle.std.specs.List.{AllByRecursion}
use Rattle.git_object.specs.Ids.{IsId}
use Rattle.metadata_writing.specs.Texts.{IsNamed}
use Rattle.demo.specs.Policies.{person_of}
use Rattle.demo.proofs.metadata.persons_of.Given as goal

abbrev pub invariant-ids : goal.invariant-ids
invariant-ids l = record {
  persons : l.persons ≡ map person_of (take l.id-index l.id-items);
  named : All IsNamed l.persons;
  valid : AllByRecursion IsId (take l.id-index l.id-items);
}
