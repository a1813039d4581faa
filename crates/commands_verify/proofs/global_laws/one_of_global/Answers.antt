use Rattle.commands_verify.proofs.OneOutcome.{same_global}
use Rattle.commands_verify.proofs.global_laws.one_of_global.Goals as goal

pub returns : goal.returns
returns c = record { global = same_global c.logs.ensures.one_break }
