use Rattle.global_rules.proofs.Maxima.{is_greatest}
use Rattle.global_rules.proofs.laws.greatest_where.Goals as goal

pub returns : goal.returns
returns c = is_greatest
