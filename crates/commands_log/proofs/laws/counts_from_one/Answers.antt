use Rattle.commands_log.proofs.Counted.{counted}
use Rattle.commands_log.proofs.laws.counts_from_one.Goals as goal

pub returns : goal.returns
returns c = counted
