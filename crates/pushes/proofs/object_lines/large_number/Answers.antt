use Rattle.std.proofs.Common.{◌≡◌, ap, ◌∙◌, arith}
use Rattle.text_reader.specs.Number.{number_of}
use Rattle.text_reader.proofs.Numbers.{number_of-decimal}
use Rattle.pushes.proofs.object_lines.large_number.Goals as goal

pub returns-in-Ok : goal.returns-in-Ok
returns-in-Ok c =
    let within = c.in-Ok.ensures.within in
    let value : number_of c.args.digits.now ≡ c.in-Ok.number = ap number_of c.in-Ok.ensures.found ∙ number_of-decimal c.in-Ok.number (omega arith) in
    omega arith
