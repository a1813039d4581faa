use Rattle.std.proofs.Common.{◌≡◌, ◌-◌}
use Rattle.lmots.specs.Chain.{steps}
use Rattle.lmots.proofs.chain.walk.Given as goal

abbrev pub invariant-steps : goal.invariant-steps
invariant-steps l = steps l.i l.q l.chain l.step (l.to - l.step) l.value ≡ steps l.i l.q l.chain l.from (l.to - l.from) l.fn.start
