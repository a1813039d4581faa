use Rattle.entry_rules.proofs.Meetings.{met_true}
use Rattle.entry_rules.proofs.laws.met_where.Goals as goal

pub returns : goal.returns
returns c = λ files name signers policy. met_true files name policy signers
