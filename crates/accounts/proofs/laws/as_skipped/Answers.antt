use Rattle.accounts.proofs.Skipping.{as_skipped}
use Rattle.accounts.proofs.laws.as_skipped.Goals as goal

pub returns : goal.returns
returns c = as_skipped
