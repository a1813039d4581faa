use Rattle.desk_turns.proofs.Always as proved
use Rattle.desk_turns.proofs.laws.free_turn.Goals as goal

pub returns : goal.returns
returns g c = let C = g.S.Chronicle in proved.free_turn C.is_legal C.stands C.counted
