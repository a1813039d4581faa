use Rattle.desk_turns.proofs.Always as proved
use Rattle.desk_turns.proofs.laws.own_rises.Goals as goal

pub returns : goal.returns
returns c = proved.own_rises
