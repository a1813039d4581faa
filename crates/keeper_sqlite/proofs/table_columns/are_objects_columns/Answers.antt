use Rattle.std.proofs.Common.{ap, rules}
use Rattle.std.specs.Prelude.{slice_get}
use Rattle.keeper_sqlite.proofs.Comparing.{three_items}
use Rattle.keeper_sqlite.proofs.table_columns.are_objects_columns.Goals as goal

pub returns : goal.returns
returns c = (
  λ is. three_items c.args.columns.now _ _ _ (search rules) (c.is_column_at.ensures.0 (search rules)) (c.is_column_at-2.ensures.0 (search rules)) (c.is_column_at-3.ensures.0 is),
  λ same. c.is_column_at-3.ensures.1 (ap (λ xs. slice_get xs 2) same),
)
