use Rattle.std.proofs.Common.{◌∙◌, ◌∷◌, ◌++◌, sym}
use Rattle.text_reader.proofs.Unique.{same_until}
use Rattle.object_making.proofs.rows.split_file.Goals as goal

pub returns-in_default-split_body-clause-none : goal.returns-in_default-split_body-clause-none
returns-in_default-split_body-clause-none c = λ path body more line short size same.
    c.in_default-split_body.ensures.none body more size (same_until 10 c.in-Some.path.now path c.in-Some.after.now (body ++ 10 ∷ more) c.in-Some.ensures.line line (sym c.in-Some.ensures.found ∙ same)).1
