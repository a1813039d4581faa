use Rattle.pushes.proofs.Retries.{retry_once}
use Rattle.pushes.proofs.step_laws.retry_once.Goals as goal

pub returns : goal.returns
returns c = retry_once
