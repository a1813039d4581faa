use Rattle.desk_turns.proofs.Always as proved
use Rattle.desk_turns.proofs.laws.one_history.Goals as goal

pub returns : goal.returns
returns g c = let C = g.S.Chronicle in proved.one_history C.is_legal C.stands C.counted
