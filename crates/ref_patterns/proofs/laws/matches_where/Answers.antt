use Rattle.ref_patterns.proofs.Related.{matches_as}
use Rattle.ref_patterns.proofs.laws.matches_where.Goals as goal

pub returns : goal.returns
returns c = matches_as
