use Rattle.std.proofs.Common.{ap, sym, Err, ◌∙◌}
use Rattle.rsl_chain.proofs.WordLemmas.{name_there, no_name}
use Rattle.rsl_chain.proofs.words.name_text.Goals as goal

pub returns-in-Ok : goal.returns-in-Ok
returns-in-Ok c = name_there _ _ (sym c.is_line.ensures ∙ c.if-is_line.false) c.in-Ok.ensures.found c.in-Ok.ensures.valid

pub returns-in-Err-BadRef : goal.returns-in-Err-BadRef
returns-in-Err-BadRef c = no_name _ (c.in-Err-BadRef.ensures.bad (ap Err c.in-Err-BadRef.field-0-is))
