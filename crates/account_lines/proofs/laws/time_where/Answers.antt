use Rattle.account_lines.proofs.Reading.{time_where}
use Rattle.account_lines.proofs.laws.time_where.Goals as goal

pub returns : goal.returns
returns c = time_where
