use Rattle.global_rules.proofs.Kept.{all_kept}
use Rattle.global_rules.proofs.laws.kept_where.Goals as goal

pub returns : goal.returns
returns c = all_kept
