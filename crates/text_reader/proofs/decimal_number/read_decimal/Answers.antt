use Rattle.std.proofs.Common.{subst, sym}
use Rattle.std.specs.Str.{IsUtf8}
use Rattle.std.specs.Prelude.{decimal}
use Rattle.std.proofs.lemmas.Fmt.{IsAscii-decimal}
use Rattle.std.proofs.lemmas.Str.{IsUtf8-from_ascii}
use Rattle.text_reader.proofs.decimal_number.read_decimal.Goals as goal

pub returns-in-Err-clause-none : goal.returns-in-Err-clause-none
returns-in-Err-clause-none c = λ number small same.
    let text : IsUtf8 c.args.text.now = subst IsUtf8 (sym same) (IsUtf8-from_ascii (decimal number) (IsAscii-decimal number small)) in
    c.in-Err.ensures.cases.0 text
