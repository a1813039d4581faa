use Rattle.accounts.proofs.OneAccount.{line_or_break, same_line}
use Rattle.accounts.proofs.laws.one_line.Goals as goal

pub returns : goal.returns
returns c = record { one = same_line c.logs.ensures.one_log; or_break = line_or_break c.logs.ensures.never_both }
