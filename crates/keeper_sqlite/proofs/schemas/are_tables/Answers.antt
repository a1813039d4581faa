use Rattle.std.proofs.Common.{ap, rules}
use Rattle.std.specs.Prelude.{slice_get}
use Rattle.keeper_sqlite.proofs.Comparing.{three_items}
use Rattle.keeper_sqlite.proofs.schemas.are_tables.Goals as goal

pub returns : goal.returns
returns c = (
  λ is. three_items c.args.tables.now _ _ _ (search rules) (c.has_objects.ensures.0 (search rules)) (c.has_refs.ensures.0 (search rules)) (c.has_facts.ensures.0 is),
  λ same. c.has_facts.ensures.1 (ap (λ xs. slice_get xs 2) same),
)
