use Rattle.rsl_chain.proofs.OtherNames.{never_the_log}
use Rattle.rsl_chain.proofs.laws.never_the_log.Goals as goal

pub returns : goal.returns
returns c = never_the_log
