use Rattle.accounts.proofs.OneAccount.{as_before}
use Rattle.accounts.proofs.laws.as_before.Goals as goal

pub returns : goal.returns
returns c = as_before c.logs.ensures.one_log
