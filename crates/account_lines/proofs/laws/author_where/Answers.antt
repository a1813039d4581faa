use Rattle.account_lines.proofs.Reading.{author_where}
use Rattle.account_lines.proofs.laws.author_where.Goals as goal

pub returns : goal.returns
returns c = author_where
