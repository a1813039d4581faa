use Rattle.accounts.proofs.OneAccount.{same_told}
use Rattle.accounts.proofs.laws.one_verdict_line.Goals as goal

pub returns : goal.returns
returns c = record { one = same_told c.logs.ensures.one_log }
