use Rattle.std.proofs.Common.{◌≡◌, sym, ◌∙◌, arith, decimal}
use Rattle.std.proofs.lemmas.Fmt.{decimal_injective}
use Rattle.desk_messages.proofs.fields.length_in.Goals as goal

pub returns-then-number-gt-LARGEST_LENGTH-clause-bad : goal.returns-then-number-gt-LARGEST_LENGTH-clause-bad
returns-then-number-gt-LARGEST_LENGTH-clause-bad c = λ said gives.
    let is : c.args.value.now ≡ decimal c.in-Some.number = c.in-Some.ensures.found in
    let small = gives.1 in
    let same : c.in-Some.number ≡ gives.0 = decimal_injective c.in-Some.number gives.0 (omega arith) (omega arith) (sym is ∙ gives.2) in
    absurd (omega arith)
