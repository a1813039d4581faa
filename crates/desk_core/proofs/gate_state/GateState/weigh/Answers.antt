use Rattle.std.proofs.Common.{subst}
use Rattle.desk_turns.specs.States.{Desk, Refuses}
use Rattle.desk_core.specs.Adding.{IsAllowed}
use Rattle.desk_core.specs.States.{GateRefuses, SaysWhy}
use Rattle.desk_core.proofs.GateStepping.{fits_from, grown_from}
use Rattle.desk_core.proofs.gate_state.GateState.weigh.Goals as goal

pub returns-in-Ok-look-clause-fits : goal.returns-in-Ok-look-clause-fits
returns-in-Ok-look-clause-fits g c = fits_from g.R.Keeper c.check.new.keeper c.look.new.keeper c.args.self.now.log c.judge_kept.new.self.log c.args.push.now c.judge_kept.ensures.log c.look.ensures.same c.in-Ok-check.ensures.fits

pub returns-in-Ok-look-clause-allowed : goal.returns-in-Ok-look-clause-allowed
returns-in-Ok-look-clause-allowed g c = λ r log told is.
    let before = c.check.ensures.same.content r (c.look.ensures.same.content r told) in
    subst (λ (d : Desk). IsAllowed log d.log r c.args.push.now) c.judge_kept.ensures.log (c.in-Ok-look.ensures.allowed r log told (c.judge_kept.ensures.judges r log before is))

pub returns-in-Ok-look-clause-grown : goal.returns-in-Ok-look-clause-grown
returns-in-Ok-look-clause-grown g c = grown_from g.R.Keeper c.look.new.keeper c.args.self.now.log c.judge_kept.new.self.log c.args.push.now c.look.new.self.engine c.judge_kept.ensures.log c.in-Ok-look.ensures.grown

pub returns-in-Ok-look-clause-judges : goal.returns-in-Ok-look-clause-judges
returns-in-Ok-look-clause-judges g c = λ r log told is. c.look.ensures.judges r log told (c.judge_kept.ensures.judges r log (c.check.ensures.same.content r (c.look.ensures.same.content r told)) is)

pub returns-in-Err-look-clause-refused : goal.returns-in-Err-look-clause-refused
returns-in-Err-look-clause-refused g c = subst (λ (d : Desk). GateRefuses (g.R.Keeper.content c.look.new.keeper) d.log c.args.push.now c.in-Err-look.reply) c.judge_kept.ensures.log c.in-Err-look.ensures.refused

pub returns-in-Err-look-clause-why : goal.returns-in-Err-look-clause-why
returns-in-Err-look-clause-why g c = λ r log told is.
    let before = c.check.ensures.same.content r (c.look.ensures.same.content r told) in
    subst (λ (d : Desk). SaysWhy log d.log r c.args.push.now c.in-Err-look.reply) c.judge_kept.ensures.log (c.in-Err-look.ensures.why r log told (c.judge_kept.ensures.judges r log before is))

pub returns-in-Err-look-clause-judges : goal.returns-in-Err-look-clause-judges
returns-in-Err-look-clause-judges g c = λ r log told is. c.look.ensures.judges r log told (c.judge_kept.ensures.judges r log (c.check.ensures.same.content r (c.look.ensures.same.content r told)) is)

pub returns-in-Err-clause-refused : goal.returns-in-Err-clause-refused
returns-in-Err-clause-refused g c = subst (λ (d : Desk). Refuses (g.R.Keeper.content c.check.new.keeper) d.log c.args.push.now c.in-Err.reply) c.judge_kept.ensures.log c.in-Err.ensures.refused

pub returns-in-Err-clause-judges : goal.returns-in-Err-clause-judges
returns-in-Err-clause-judges g c = λ r log told is. c.judge_kept.ensures.judges r log (c.check.ensures.same.content r told) is
