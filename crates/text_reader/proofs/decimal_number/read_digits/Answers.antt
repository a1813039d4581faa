use Rattle.std.proofs.Common.{◌≡◌, ap, ◌∙◌}
use Rattle.std.specs.Prelude.{decimal}
use Rattle.std.proofs.lemmas.Fmt.{parse-decimal}
use Rattle.text_reader.proofs.decimal_number.read_digits.Goals as goal

pub returns-else-is_text_of-clause-none : goal.returns-else-is_text_of-clause-none
returns-else-is_text_of-clause-none c = λ n h e.
    let p = parse-decimal 64 n c.args.text.now c.parse.result h h e c.parse.ensures.value.0 in
    let same : n ≡ c.in-Ok.number = cc in
    let t = c.is_text_of.ensures.1 (e ∙ ap decimal same) in
    cc

pub returns-in-Err-clause-none : goal.returns-in-Err-clause-none
returns-in-Err-clause-none c = λ n h e.
    let p = parse-decimal 64 n c.args.text.now c.parse.result h h e c.parse.ensures.value.0 in
    cc
