use Rattle.object_making.proofs.Kept.{kept_all}
use Rattle.object_making.proofs.laws.kept.Goals as goal

pub returns : goal.returns
returns c = kept_all
