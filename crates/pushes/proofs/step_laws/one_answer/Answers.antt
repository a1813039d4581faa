use Rattle.pushes.proofs.Walks.{one_answer}
use Rattle.pushes.proofs.step_laws.one_answer.Goals as goal

pub returns : goal.returns
returns c = one_answer
