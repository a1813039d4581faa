use Rattle.desk_core.proofs.Judging.{judged_here}
use Rattle.desk_core.proofs.gate_state.GateState.verdict.Goals as goal

pub returns-in-Ok-verdict-clause-judged : goal.returns-in-Ok-verdict-clause-judged
returns-in-Ok-verdict-clause-judged g c = λ r log told is.
    judged_here r log c.args.self.now c.judge_kept.new.self c.requires.clear c.judge_kept.ensures.log c.in-Ok.ensures.none (c.judge_kept.ensures.judges r log (c.verdict.ensures.same.content r told) is) c.args.name.now _ c.in-Ok-verdict.verdict
    (λ follows. c.in-Ok-verdict.ensures.judged r log told follows)
