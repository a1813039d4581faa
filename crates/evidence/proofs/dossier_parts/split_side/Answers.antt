use Rattle.std.proofs.Common.{◌++◌, ◌∷◌, sym, ap, ◌∙◌, ℕ, List, length}
use Rattle.std.specs.Prelude.{decimal}
use Rattle.std.proofs.lemmas.Bool.{true≢false}
use Rattle.text_reader.specs.Line.{has_byte}
use Rattle.text_reader.proofs.Unique.{has_byte_here}
use Rattle.evidence.proofs.Sides.{no_size, same_body, same_number, same_size_line, side_found, side_then, side_words}
use Rattle.evidence.proofs.dossier_parts.split_side.Goals as goal

pub returns-in_default-clause-none : goal.returns-in_default-clause-none
returns-in_default-clause-none c = λ part more is same.
    c.in_default.ensures.none (decimal (length is.body) ++ 10 ∷ (is.body ++ 10 ∷ more))
    (same ∙ ap (λ (p : List ℕ). p ++ more) is.is ∙ side_then c.args.word.now is.body more)

pub returns-in_default-split_line-clause-none : goal.returns-in_default-split_line-clause-none
returns-in_default-split_line-clause-none c = λ part more is same.
    let words = side_words c.args.text.now c.args.word.now c.in-Some.words.now part more c.in-Some.ensures.found is same in
    true≢false (sym (has_byte_here 10 (decimal (length is.body)) (is.body ++ 10 ∷ more)) ∙ ap (has_byte 10) (sym words) ∙ c.in_default-split_line.ensures.none)

pub returns-in_default-read_decimal_within-clause-none : goal.returns-in_default-read_decimal_within-clause-none
returns-in_default-read_decimal_within-clause-none c = λ part more is same.
    let words = side_words c.args.text.now c.args.word.now c.in-Some.words.now part more c.in-Some.ensures.found is same in
    let line = same_size_line c.in-Some.words.now c.in-Some-split_line.line.0.now c.in-Some-split_line.line.1.now is.body more is.small
    c.in-Some-split_line.ensures.first c.in-Some-split_line.ensures.found words in
    no_size c.in-Some-split_line.line.0.now is.body c.read_decimal_within.result c.in_default-read_decimal_within.field-0 c.in_default-read_decimal_within.is
    c.read_decimal_within.ensures.no_number c.read_decimal_within.ensures.too_large is.small line.0

pub returns-in_default-split_front-clause-none : goal.returns-in_default-split_front-clause-none
returns-in_default-split_front-clause-none c = λ part more is same.
    let words = side_words c.args.text.now c.args.word.now c.in-Some.words.now part more c.in-Some.ensures.found is same in
    let line = same_size_line c.in-Some.words.now c.in-Some-split_line.line.0.now c.in-Some-split_line.line.1.now is.body more is.small
    c.in-Some-split_line.ensures.first c.in-Some-split_line.ensures.found words in
    c.in_default-split_front.ensures.none is.body (10 ∷ more)
    (same_number (length is.body) c.in-Ok.size is.small c.in-Ok.ensures.within (sym line.0 ∙ c.in-Ok.ensures.found)) line.1

pub returns-in_default-strip_front-clause-none : goal.returns-in_default-strip_front-clause-none
returns-in_default-strip_front-clause-none c = λ part more is same.
    let words = side_words c.args.text.now c.args.word.now c.in-Some.words.now part more c.in-Some.ensures.found is same in
    let line = same_size_line c.in-Some.words.now c.in-Some-split_line.line.0.now c.in-Some-split_line.line.1.now is.body more is.small
    c.in-Some-split_line.ensures.first c.in-Some-split_line.ensures.found words in
    let long = same_number (length is.body) c.in-Ok.size is.small c.in-Ok.ensures.within (sym line.0 ∙ c.in-Ok.ensures.found) in
    c.in_default-strip_front.ensures.none more
    (same_body c.in-Some-split_line.line.1.now c.in-Some-split_front.parts.0.now c.in-Some-split_front.parts.1.now is.body more
    c.in-Some-split_front.ensures.found (c.in-Some-split_front.ensures.len ∙ sym long) line.1)

pub returns-clause-found : goal.returns-clause-found
returns-clause-found c =
    side_found c.args.text.now c.args.word.now c.in-Some.words.now c.in-Some-split_line.line.0.now c.in-Some-split_line.line.1.now
    c.in-Some-split_front.parts.0.now c.in-Some-split_front.parts.1.now c.in-Some-strip_front.more.now
    c.in-Some.ensures.found c.in-Some-split_line.ensures.found (c.in-Ok.ensures.found ∙ ap decimal (sym c.in-Some-split_front.ensures.len))
    c.in-Some-split_front.ensures.found c.in-Some-strip_front.ensures.found
