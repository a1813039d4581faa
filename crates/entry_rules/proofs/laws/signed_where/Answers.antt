use Rattle.entry_rules.proofs.Faultless.{signed_is}
use Rattle.entry_rules.proofs.laws.signed_where.Goals as goal

pub returns : goal.returns
returns c = λ r policy entry from attested name target id body. signed_is r policy entry from attested name target body id
