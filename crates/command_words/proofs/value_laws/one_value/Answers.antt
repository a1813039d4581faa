use Rattle.command_words.proofs.OneValue.{one_value}
use Rattle.command_words.proofs.value_laws.one_value.Goals as goal

pub returns : goal.returns
returns c = one_value
