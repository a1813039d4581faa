use Rattle.reading_laws.proofs.EntryTexts.{entry_where, refused_where}
use Rattle.reading_laws.proofs.laws.entry_where.Goals as goal

pub returns : goal.returns
returns c = record { read = entry_where; refused = refused_where }
