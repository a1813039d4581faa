use Rattle.desk_core.proofs.Judging.{judges_caught, judges_still}
use Rattle.desk_core.proofs.gate_state.GateState.judge_kept.Goals as goal

pub returns-in-Ok-clause-judges : goal.returns-in-Ok-clause-judges
returns-in-Ok-clause-judges g c = λ r log told is. judges_caught r log c.args.self.now c.requires.clear c.catch_up.new.engine c.catch_up.ensures.rules (c.in-Ok.ensures.caught r log told) is

pub returns-in-Err-clause-judges : goal.returns-in-Err-clause-judges
returns-in-Err-clause-judges g c = λ r log told is. judges_still r log c.args.self.now c.requires.clear c.catch_up.new.engine c.catch_up.ensures.rules c.in-Err.ensures.refused is
