use Rattle.commands_approve.proofs.OneOutcome.{same_approved}
use Rattle.commands_approve.proofs.laws.one_of_approvals.Goals as goal

pub returns : goal.returns
returns c = record { approved = λ name target file was. same_approved c.logs.ensures.one_log c.logs.ensures.one_break c.logs.ensures.never_both name target file was }
