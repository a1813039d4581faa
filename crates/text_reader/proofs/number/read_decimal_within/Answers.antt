use Rattle.std.proofs.Common.{◌<◌, ◌^◌, rules}
use Rattle.text_reader.proofs.Numbers.{past_all, past_limit}
use Rattle.text_reader.proofs.number.read_decimal_within.Goals as goal

pub returns-then-number-most-clause-too_large : goal.returns-then-number-most-clause-too_large
returns-then-number-most-clause-too_large c = λ _.
    let small : c.in-Some.number < 2 ^ 64 = search rules in
    past_limit c.args.text.now c.in-Some.number c.args.most small c.in-Some.ensures.found c.if-number-most.true

pub returns-then-is_number-clause-too_large : goal.returns-then-is_number-clause-too_large
returns-then-is_number-clause-too_large c = λ _.
    past_all c.args.text.now c.args.most c.ranges.most.fits (c.is_number.ensures.0 c.if-is_number.true) c.in-None.ensures.none
