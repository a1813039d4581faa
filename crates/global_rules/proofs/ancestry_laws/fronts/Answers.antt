use Rattle.global_rules.proofs.Order.{ancestors_front, met_front}
use Rattle.global_rules.proofs.ancestry_laws.fronts.Goals as goal

pub returns : goal.returns
returns c = record {
  met = λ parents root n more. met_front parents root n more;
  ancestors = λ parents root n more. ancestors_front parents root n more;
}
