use Rattle.std.proofs.Common.{Some, sym, ap, ◌∙◌, rules}
use Rattle.sqlite_value.specs.Keys.{plain}
use Rattle.keeper_sqlite.proofs.Comparing.{first_item, one_item}
use Rattle.keeper_sqlite.proofs.schemas.is_plain_alone.Goals as goal

pub returns-in-Some : goal.returns-in-Some
returns-in-Some c = (
  λ is. one_item c.args.orders.now plain (search rules) (sym c.in-Some.ensures.value ∙ ap Some (c.is_plain.ensures.0 is)),
  λ same. c.is_plain.ensures.1 (first_item c.args.orders.now _ _ _ c.in-Some.ensures.value same),
)
