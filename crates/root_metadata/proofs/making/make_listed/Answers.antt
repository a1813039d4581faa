use Rattle.std.proofs.Common.{ap, ◌∙◌}
use Rattle.std.proofs.lemmas.List.{take_all}
use Rattle.root_metadata.specs.Made.{person_made, persons_made}
use Rattle.root_metadata.proofs.Listed.{rising_listed, some_more}
use Rattle.root_metadata.proofs.making.make_listed.Goals as goal

pub listed-preserved : goal.listed-preserved
listed-preserved c =
    some_more (person_made c.args.roster.now) c.as_slice-text-items.result.now c.listed.text-index c.text-item.result c.listed.made c.add_person.new.persons c.in_ok-person.person c.listed-test.true c.text-item.is
    c.in_ok-person.ensures c.in_ok-add_person.ensures c.listed.invariant

pub from_rising-requires : goal.from_rising-requires
from_rising-requires c =
    let all = take_all c.listed.text-index c.as_slice-text-items.result.now c.listed-test.false ∙ c.as_slice-text-items.ensures.value in
    rising_listed c.args.roster.now c.args.listed.now c.listed.made (c.listed.invariant ∙ ap (persons_made c.args.roster.now) all) c.as_slice-text-items.ensures.rising
