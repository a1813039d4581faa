use Rattle.desk_turns.proofs.Always as proved
use Rattle.desk_turns.proofs.laws.nothing_is_taken_back.Goals as goal

pub returns : goal.returns
returns g c = let C = g.S.Chronicle in proved.never_back C.is_legal C.stands C.counted
