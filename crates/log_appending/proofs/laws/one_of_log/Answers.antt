use Rattle.log_appending.proofs.OneOutcome.{same_record}
use Rattle.log_appending.proofs.laws.one_of_log.Goals as goal

pub returns : goal.returns
returns c = record { recorded = same_record c.logs.ensures.one_log c.logs.ensures.one_break c.logs.ensures.never_both }
