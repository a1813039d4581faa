use Rattle.std.proofs.Common.{◌∙◌, ap, sym}
use Rattle.std.specs.Prelude.{Err}
use Rattle.object_making.proofs.Fronts.{is_number, not_past, same_word}
use Rattle.object_making.proofs.rows.split_size.Goals as goal

pub returns-in-Err-NotNumber-clause-none : goal.returns-in-Err-NotNumber-clause-none
returns-in-Err-NotNumber-clause-none c = λ size more small same.
    let word = (same_word c.in-Some.word.now c.in-Some.rest.now more size small c.in-Some.ensures.first (sym c.in-Some.ensures.found ∙ same)).0 in
    c.in-Err-NotNumber.ensures.no_number (ap Err c.in-Err-NotNumber.field-0-is) (is_number c.in-Some.word.now size small word)

pub returns-in-Err-TooLarge-clause-none : goal.returns-in-Err-TooLarge-clause-none
returns-in-Err-TooLarge-clause-none c = λ size more small same.
    let word = (same_word c.in-Some.word.now c.in-Some.rest.now more size small c.in-Some.ensures.first (sym c.in-Some.ensures.found ∙ same)).0 in
    not_past c.in-Some.word.now size small word (c.in-Err-TooLarge.ensures.too_large (ap Err c.in-Err-TooLarge.field-0-is)).1
