use Rattle.std.proofs.Common.{◌∙◌, ◌∷◌, sym}
use Rattle.text_reader.proofs.Unique.{same_fronts}
use Rattle.object_making.proofs.rows.split_body.Goals as goal

pub returns-in_default-strip_front-clause-none : goal.returns-in_default-strip_front-clause-none
returns-in_default-strip_front-clause-none c = λ body more size same.
    c.in_default-strip_front.ensures.none more (same_fronts c.in-Some.body.now body c.in-Some.after.now (10 ∷ more) (c.in-Some.ensures.len ∙ sym size) (sym c.in-Some.ensures.found ∙ same)).1
