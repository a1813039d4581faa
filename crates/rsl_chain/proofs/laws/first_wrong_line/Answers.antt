use Rattle.rsl_chain.proofs.Live.{wrong_first}
use Rattle.rsl_chain.proofs.laws.first_wrong_line.Goals as goal

pub returns : goal.returns
returns c = wrong_first
