use Rattle.dsse_envelope.proofs.Counted.{count_is}
use Rattle.dsse_envelope.proofs.reading.count.Goals as goal

pub returns-clause-items : goal.returns-clause-items
returns-clause-items c = count_is c.args.values.now
