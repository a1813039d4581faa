use Rattle.entry_rules.proofs.Faultless.{lawful_is}
use Rattle.entry_rules.proofs.laws.lawful_where.Goals as goal

pub returns : goal.returns
returns c = λ r policy entry from attested name target valid body. lawful_is r policy entry from attested name target body valid
