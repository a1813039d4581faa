use Rattle.accounts.proofs.OneAccount.{greatest}
use Rattle.accounts.proofs.laws.epoch_greatest.Goals as goal

pub returns : goal.returns
returns c = greatest
