use Rattle.desk_turns.proofs.Always as proved
use Rattle.desk_turns.proofs.laws.no_fork.Goals as goal

pub returns : goal.returns
returns g c = let C = g.S.Chronicle in proved.no_fork C.is_legal C.stands C.counted
