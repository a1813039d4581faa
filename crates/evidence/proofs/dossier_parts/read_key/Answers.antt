use Rattle.std.proofs.Common.{◌+◌, ◌-◌, length, refl, ap, arith, length-append}
use Rattle.evidence.specs.Breaks.{BreaksLeft, IsKeyLine}
use Rattle.evidence.specs.Dossiers.{bytes_in, key_line}
use Rattle.evidence.proofs.Breaking.{goes_on}
use Rattle.evidence.proofs.dossier_parts.read_key.Goals as goal

pub returns-in-Err-clause-bad : goal.returns-in-Err-clause-bad
returns-in-Err-clause-bad c =
    let text = c.args.text.now in
    let rest = c.in-Some.rest.now in
    let public = bytes_in c.in-Some.public in
    let part = key_line public in
    let long = length-append part rest in
    let cut = ap length c.in-Some.ensures.found in
    goes_on IsKeyLine BreaksLeft c.args.at text part rest (c.args.at + (length text - length rest)) c.in-Err.place
    (record { public = public; is_public = c.in-Some.ensures.public; is = refl }) c.in-Some.ensures.found (omega (arith, long, cut)) c.in-Err.ensures.bad
