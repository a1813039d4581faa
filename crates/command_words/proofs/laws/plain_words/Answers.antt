use Rattle.command_words.proofs.PlainWords.{plain_words}
use Rattle.command_words.proofs.laws.plain_words.Goals as goal

pub returns : goal.returns
returns c = plain_words
