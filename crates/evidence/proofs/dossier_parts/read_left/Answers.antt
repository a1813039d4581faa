use Rattle.std.proofs.Common.{◌+◌, ◌-◌, length, refl, ap, arith, length-append}
use Rattle.evidence.specs.Breaks.{BreaksRight, IsSide}
use Rattle.evidence.specs.Dossiers.{left_word, side_text}
use Rattle.evidence.proofs.Breaking.{goes_on}
use Rattle.evidence.proofs.dossier_parts.read_left.Goals as goal

pub returns-in-Err-clause-bad : goal.returns-in-Err-clause-bad
returns-in-Err-clause-bad c =
    let text = c.args.text.now in
    let rest = c.in-Some.rest.now in
    let part = side_text left_word c.in-Some.left.now in
    let long = length-append part rest in
    let cut = ap length c.in-Some.ensures.found in
    goes_on (IsSide left_word) BreaksRight c.args.at text part rest (c.args.at + (length text - length rest)) c.in-Err.place
    (record { body = c.in-Some.left.now; small = c.in-Some.ensures.small; is = refl }) c.in-Some.ensures.found (omega (arith, long, cut)) c.in-Err.ensures.bad
