use Rattle.desk_turns.proofs.Always as proved
use Rattle.desk_turns.proofs.laws.longer_of_two.Goals as goal

pub returns : goal.returns
returns c = proved.longer_of_two
