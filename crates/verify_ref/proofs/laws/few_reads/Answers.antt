use Rattle.verify_ref.proofs.FewReads.{few}
use Rattle.verify_ref.proofs.laws.few_reads.Goals as goal

pub returns : goal.returns
returns c = λ anchor log t name target body bounded. few anchor log t name target body bounded
