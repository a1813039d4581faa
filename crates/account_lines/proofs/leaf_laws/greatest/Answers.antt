use Rattle.account_lines.proofs.Greatest.{are_greatest}
use Rattle.account_lines.proofs.leaf_laws.greatest.Goals as goal

pub returns : goal.returns
returns c = are_greatest
