use Rattle.std.proofs.Common.{sym, ◌∙◌, ◌∷◌}
use Rattle.git_object.proofs.LineLemmas.{same_id}
use Rattle.clone_stream.proofs.line_words.split_id.Goals as goal

pub returns-in_default-strip_front-clause-none : goal.returns-in_default-strip_front-clause-none
returns-in_default-strip_front-clause-none c = λ id rest is same.
    let parts = same_id c.in-Some.found.0 id c.in-Some.found.1.now (32 ∷ rest) c.in-Some.ensures.valid is (sym c.in-Some.ensures.found ∙ same) in
    c.in_default-strip_front.ensures.none rest parts.1
