use Rattle.entry_rules.proofs.Faultless.{told_as}
use Rattle.entry_rules.proofs.laws.told_where.Goals as goal

pub returns : goal.returns
returns c = λ r policy entry from attested name target fault valid body. told_as r policy entry from attested name target body valid fault
