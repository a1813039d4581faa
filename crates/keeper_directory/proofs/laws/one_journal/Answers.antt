use Rattle.keeper_directory.proofs.JournalTexts.{one_journal}
use Rattle.keeper_directory.proofs.laws.one_journal.Goals as goal

pub returns : goal.returns
returns c = one_journal
