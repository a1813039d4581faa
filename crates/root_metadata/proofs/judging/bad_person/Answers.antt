use Rattle.std.proofs.Common.{[], List, ap, ◌∙◌}
use Rattle.std.specs.Prelude.{Bool}
use Rattle.root_metadata.specs.Judged.{first_wrong, is_bad_person}
use Rattle.root_metadata.specs.declared.persons.Person.{Person}
use Rattle.root_metadata.proofs.Lookups.{beside}
use Rattle.root_metadata.proofs.judging.bad_person.Goals as goal

pub returns : goal.returns
returns c =
    c.first_bad.ensures
    ∙ ap (λ (wrong : List Person → Person → Bool). first_wrong wrong [] c.as_slice.result.now) (beside c.args.roster.now c.args.known.now c.requires)
    ∙ ap (λ (persons : List Person). first_wrong (is_bad_person c.args.roster.now.keys) [] persons) c.as_slice.ensures
