use Rattle.std.proofs.Common.{ap, sym, Err}
use Rattle.account_lines.proofs.Reading.{no_seconds, seconds_past, seconds_there}
use Rattle.account_lines.proofs.times.seconds_of.Goals as goal

pub returns-in-Ok : goal.returns-in-Ok
returns-in-Ok c = sym (seconds_there _ _ c.in-Ok.ensures.found c.in-Ok.ensures.within)

pub returns-in-Err-NotNumber : goal.returns-in-Err-NotNumber
returns-in-Err-NotNumber c = sym (no_seconds _ (c.in-Err-NotNumber.ensures.no_number (ap Err c.in-Err-NotNumber.field-0-is)))

pub returns-in-Err-TooLarge : goal.returns-in-Err-TooLarge
returns-in-Err-TooLarge c = sym (seconds_past _ (c.in-Err-TooLarge.ensures.too_large (ap Err c.in-Err-TooLarge.field-0-is)))
