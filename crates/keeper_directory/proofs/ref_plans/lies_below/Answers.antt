use Rattle.std.proofs.Common.{◌∷◌, sym, ◌∙◌}
use Rattle.text_reader.proofs.Unique.{same_front}
use Rattle.keeper_directory.proofs.ref_plans.lies_below.Goals as goal

pub returns-in_default-strip_front-clause-none : goal.returns-in_default-strip_front-clause-none
returns-in_default-strip_front-clause-none c = λ rest is.
    absurd (c.in_default-strip_front.ensures.none rest (same_front c.args.above.now c.in-Some.rest.now (47 ∷ rest) (sym c.in-Some.ensures.found ∙ is)))
