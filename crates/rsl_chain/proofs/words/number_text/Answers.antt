use Rattle.std.proofs.Common.{ap, sym, Err}
use Rattle.rsl_chain.proofs.WordLemmas.{no_number, number_past, number_there}
use Rattle.rsl_chain.proofs.words.number_text.Goals as goal

pub returns-in-Ok : goal.returns-in-Ok
returns-in-Ok c = sym (number_there _ _ c.in-Ok.ensures.found c.in-Ok.ensures.within)

pub returns-in-Err-NotNumber : goal.returns-in-Err-NotNumber
returns-in-Err-NotNumber c = sym (no_number _ (c.in-Err-NotNumber.ensures.no_number (ap Err c.in-Err-NotNumber.field-0-is)))

pub returns-in-Err-TooLarge : goal.returns-in-Err-TooLarge
returns-in-Err-TooLarge c = sym (number_past _ (c.in-Err-TooLarge.ensures.too_large (ap Err c.in-Err-TooLarge.field-0-is)))
