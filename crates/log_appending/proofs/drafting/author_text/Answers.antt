use Rattle.std.proofs.Common.{arith}
use Rattle.log_appending.proofs.Written.{author_plain}
use Rattle.log_appending.proofs.drafting.author_text.Goals as goal

pub returns-clause-plain : goal.returns-clause-plain
returns-clause-plain c = author_plain c.args.seconds (omega (arith, c.ranges.seconds))
