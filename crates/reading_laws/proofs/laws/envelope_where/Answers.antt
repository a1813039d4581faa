use Rattle.reading_laws.proofs.EnvelopeTexts.{read_where}
use Rattle.reading_laws.proofs.laws.envelope_where.Goals as goal

pub returns : goal.returns
returns c = read_where
