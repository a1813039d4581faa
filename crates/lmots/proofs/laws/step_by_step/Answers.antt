use Rattle.sha256_lanes.proofs.Steps.{step_by_step}
use Rattle.lmots.specs.Chain.{head}
use Rattle.lmots.proofs.laws.step_by_step.Goals as goal

pub returns : goal.returns
returns c = record {
  none = λ i q chain. step_by_step.none (head i q chain);
  last = λ i q chain. step_by_step.last (head i q chain);
}
