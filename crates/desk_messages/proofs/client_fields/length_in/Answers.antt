use Rattle.std.proofs.Common.{◌≡◌, sym, ◌∙◌, arith, decimal}
use Rattle.std.proofs.lemmas.Fmt.{decimal_injective}
use Rattle.desk_messages.proofs.ClientReading.{same_first}
use Rattle.desk_messages.proofs.client_fields.length_in.Goals as goal

pub returns-then-len-gt-LARGEST_BODY-clause-none : goal.returns-then-len-gt-LARGEST_BODY-clause-none
returns-then-len-gt-LARGEST_BODY-clause-none c = λ len small is.
    let found : c.args.value.now ≡ decimal c.in-Some.len = c.in-Some.ensures.found in
    let said : c.args.value.now ≡ decimal len = same_first c.args.value.now (decimal len) is in
    let same : c.in-Some.len ≡ len = decimal_injective c.in-Some.len len (omega arith) (omega arith) (sym found ∙ said) in
    absurd (omega arith)
