use Rattle.std.proofs.Common.{sym, ap, subst, ◌∙◌}
use Rattle.std.specs.Prelude.{Err}
use Rattle.text_reader.specs.Number.{IsNumber}
use Rattle.clone_stream.proofs.Lines.{same_object_line}
use Rattle.clone_stream.proofs.line_words.read_head.Goals as goal

pub returns-in-Err-NotNumber-clause-no_head : goal.returns-in-Err-NotNumber-clause-no_head
returns-in-Err-NotNumber-clause-no_head c = λ _ other.
    let line = same_object_line c.in-Some.parts.0 other.id c.in-Some.parts.1 other.kind c.in-Some.parts.2.now other.digits c.in-Some.ensures.valid other.is_id (sym c.in-Some.ensures.found ∙ other.is) in
    c.read_decimal_within.ensures.no_number (c.in-Err-NotNumber.is ∙ ap Err c.in-Err-NotNumber.field-0-is) (subst IsNumber (sym line.digits) other.is_number)

pub returns-in-Err-TooLarge-clause-too_large : goal.returns-in-Err-TooLarge-clause-too_large
returns-in-Err-TooLarge-clause-too_large c = λ _.
    let large = c.read_decimal_within.ensures.too_large (c.in-Err-TooLarge.is ∙ ap Err c.in-Err-TooLarge.field-0-is) in
    record {
      object = record { id = c.in-Some.parts.0; kind = c.in-Some.parts.1; digits = c.in-Some.parts.2.now; is_id = c.in-Some.ensures.valid; is_number = large.0; is = c.in-Some.ensures.found };
      huge = large.1;
    }
