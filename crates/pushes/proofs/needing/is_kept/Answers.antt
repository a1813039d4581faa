use Rattle.pushes.proofs.RowLemmas.{kept_none, kept_some}
use Rattle.pushes.proofs.needing.is_kept.Goals as goal

pub returns-in_default-clause-none : goal.returns-in_default-clause-none
returns-in_default-clause-none g c = λ is r told. kept_none r c.args.id.now c.in_ok-_object.field-0 c.in_default.is (c.in_ok-_object.ensures.none r told)

pub returns-clause-there : goal.returns-clause-there
returns-clause-there g c = λ is r told none. kept_some r c.args.id.now c.in_ok-_object.field-0 _ c.in-Some.is (c.in_ok-_object.ensures.found r told) none
