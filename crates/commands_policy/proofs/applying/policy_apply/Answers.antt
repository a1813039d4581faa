use Rattle.std.proofs.Common.{Err, ap}
use Rattle.commands_policy.proofs.applying.policy_apply.Goals as goal

pub returns-in-Err-Refused-clause-reads_refused : goal.returns-in-Err-Refused-clause-reads_refused
returns-in-Err-Refused-clause-reads_refused g c = λ why line is r told.
    c.in-Err-Refused.ensures.reads_refused c.in-Err-Refused.why c.in-Err-Refused.told (ap Err c.in-Err-Refused.field-0-is) r told
