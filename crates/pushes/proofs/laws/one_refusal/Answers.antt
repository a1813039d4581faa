use Rattle.pushes.proofs.OneRefusals.{one_refusal}
use Rattle.pushes.proofs.laws.one_refusal.Goals as goal

pub returns : goal.returns
returns c = one_refusal
