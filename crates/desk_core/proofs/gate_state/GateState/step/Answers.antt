use Rattle.desk_core.proofs.GateStepping.{known_on, let_through_gate, refused_gate, refused_steps, steps_on}
use Rattle.desk_core.proofs.gate_state.GateState.step.Goals as goal

pub returns-in-Ok-clause-steps : goal.returns-in-Ok-clause-steps
returns-in-Ok-clause-steps g c = steps_on g.R.Keeper c.args.keeper.now c.weigh.new.keeper c.take.new.keeper c.args.self.now.log c.weigh.new.self.log c.take.new.self.log c.args.push.now c.args.seat c.take.result c.weigh.ensures.same c.weigh.ensures.log c.take.ensures.steps

pub returns-in-Ok-clause-gate : goal.returns-in-Ok-clause-gate
returns-in-Ok-clause-gate g c = λ r' log told judged.
    let same = c.weigh.ensures.same in
    let_through_gate g.R.Keeper c.args.keeper.now c.weigh.new.keeper c.take.new.keeper c.args.self.now c.weigh.new.self c.take.new.self c.args.push.now c.args.seat log (record {
      log_is = c.weigh.ensures.log;
      clear = c.requires.clear;
      none = c.in-Ok.ensures.none;
      same = same;
      engine_is = c.take.ensures.engine;
      allowed = λ r held. c.in-Ok.ensures.allowed r log held (judged r (same.content r held));
      judges = λ r held. c.weigh.ensures.judges r log held (judged r (same.content r held));
    }) r' told c.take.result c.take.ensures.waits c.take.ensures.steps

pub returns-in-Ok-clause-known : goal.returns-in-Ok-clause-known
returns-in-Ok-clause-known g c =
    known_on g.R.Keeper c.weigh.new.keeper c.take.new.keeper c.args.self.now.log c.weigh.new.self.log c.take.new.self.log c.args.push.now c.args.seat c.weigh.new.self.engine c.take.new.self.engine c.weigh.ensures.log c.take.ensures.engine
    c.weigh.ensures.known c.in-Ok.ensures.grown c.take.result c.take.ensures.steps

pub returns-in-Err-clause-steps : goal.returns-in-Err-clause-steps
returns-in-Err-clause-steps g c = refused_steps g.R.Keeper c.args.keeper.now c.weigh.new.keeper c.args.self.now.log c.weigh.new.self.log c.args.push.now c.args.seat c.weigh.ensures.same c.weigh.ensures.log c.in-Err.reply c.in-Err.ensures.refused

pub returns-in-Err-clause-gate : goal.returns-in-Err-clause-gate
returns-in-Err-clause-gate g c = λ r' log told judged.
    let same = c.weigh.ensures.same in
    let was = judged r' (same.content r' told) in
    refused_gate g.R.Keeper c.args.keeper.now c.weigh.new.keeper c.args.self.now c.weigh.new.self c.args.push.now c.args.seat log r' told same c.weigh.ensures.log (c.weigh.ensures.judges r' log told was) c.in-Err.reply c.in-Err.ensures.refused (c.in-Err.ensures.why r' log told was)
