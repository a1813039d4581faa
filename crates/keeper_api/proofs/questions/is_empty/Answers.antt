use Rattle.std.proofs.Common.{sym, ◌∙◌}
use Rattle.std.proofs.lemmas.Bool.{false≢true}
use Rattle.keeper_api.proofs.Emptiness.{first_found, neither_found}
use Rattle.keeper_api.proofs.questions.is_empty.Goals as goal

pub returns-then-is_some-clause-answer : goal.returns-then-is_some-clause-answer
returns-then-is_some-clause-answer g c = λ r told. (
  λ f. absurd (false≢true f),
  λ e. absurd (first_found r _ (sym c.is_some.ensures ∙ c.if-is_some.true) (c.in_ok-next_object_after.ensures.answer r told) e),
)

pub returns-clause-answer : goal.returns-clause-answer
returns-clause-answer g c = λ r told.
    neither_found r _ _ _ (sym c.is_some.ensures ∙ c.if-is_some.false) c.is_none.ensures
    (c.in_ok-next_object_after.ensures.answer r (c.in_ok-next_ref_after.ensures.same.content r told))
    (c.in_ok-next_ref_after.ensures.answer r told)
