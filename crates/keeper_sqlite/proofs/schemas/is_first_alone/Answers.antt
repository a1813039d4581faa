use Rattle.std.proofs.Common.{[], ◌∷◌, Some, sym, ap, ◌∙◌, rules}
use Rattle.keeper_sqlite.proofs.Comparing.{first_item, one_item}
use Rattle.keeper_sqlite.proofs.schemas.is_first_alone.Goals as goal

pub returns-in-Some : goal.returns-in-Some
returns-in-Some c = (
  λ is. one_item c.args.keys.now (1 ∷ []) (search rules) (sym c.in-Some.ensures.value ∙ ap Some (c.is_first.ensures.0 is)),
  λ same. c.is_first.ensures.1 (first_item c.args.keys.now _ _ _ c.in-Some.ensures.value same),
)
