use Rattle.policy_reading.proofs.InTurn.{in_turn}
use Rattle.policy_reading.proofs.epoch_laws.entry_by_entry.Goals as goal

pub returns : goal.returns
returns c = in_turn
