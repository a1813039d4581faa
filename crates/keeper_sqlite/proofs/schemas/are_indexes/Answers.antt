use Rattle.std.proofs.Common.{◌≡◌, IsTrue, false, ap, rules}
use Rattle.std.specs.Fmt.{digits}
use Rattle.std.specs.Prelude.{slice_get}
use Rattle.keeper_sqlite.proofs.Comparing.{three_items}
use Rattle.keeper_sqlite.proofs.schemas.are_indexes.Goals as goal

pub returns-then-not-is_automatic_at : goal.returns-then-not-is_automatic_at
unfolding digits
returns-then-not-is_automatic_at c = (
  λ is. cc,
  λ same.
      let not_it : c.is_automatic_at.result ≡ false = search rules in
      let it : IsTrue c.is_automatic_at.result = c.is_automatic_at.ensures.1 (ap (λ xs. slice_get xs 0) same) in
      cc,
)

pub returns : goal.returns
unfolding digits
returns c = (
  λ is. three_items c.args.indexes.now _ _ _ (search rules) (c.is_automatic_at.ensures.0 (search rules)) (c.is_automatic_at-2.ensures.0 (search rules)) (c.is_automatic_at-3.ensures.0 is),
  λ same. c.is_automatic_at-3.ensures.1 (ap (λ xs. slice_get xs 2) same),
)
