use Rattle.std.proofs.Common.{◌==◌, ℕ, List, [], ◌∷◌, length, sym, ap, ◌∙◌}
use Rattle.std.proofs.lemmas.Bool.{false≢true}
use Rattle.text_reader.proofs.Unique.{same_front}
use Rattle.keeper_directory.proofs.Ids.{same_id}
use Rattle.keeper_directory.proofs.ref_files.read_ref_text.Goals as goal

pub returns-in_default-strip_front-clause-none : goal.returns-in_default-strip_front-clause-none
returns-in_default-strip_front-clause-none c = λ id is same.
    let parts = same_id c.in-Some.found.0 id c.in-Some.found.1.now (10 ∷ []) c.in-Some.ensures.valid is (sym c.in-Some.ensures.found ∙ same) in
    c.in_default-strip_front.ensures.none [] parts.1

pub returns-then-not-is_empty-clause-none : goal.returns-then-not-is_empty-clause-none
returns-then-not-is_empty-clause-none c = λ id is same.
    let parts = same_id c.in-Some.found.0 id c.in-Some.found.1.now (10 ∷ []) c.in-Some.ensures.valid is (sym c.in-Some.ensures.found ∙ same) in
    let rest = same_front (10 ∷ []) c.in-Some-strip_front.rest.now [] (sym c.in-Some-strip_front.ensures.found ∙ parts.1) in
    false≢true (c.if-not-is_empty.ensures ∙ ap (λ (r : List ℕ). length r == 0) rest)
