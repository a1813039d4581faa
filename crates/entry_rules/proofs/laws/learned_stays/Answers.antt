use Rattle.entry_rules.proofs.LearnedLarger.{learned_same}
use Rattle.entry_rules.proofs.laws.learned_stays.Goals as goal

pub returns : goal.returns
returns c = learned_same
