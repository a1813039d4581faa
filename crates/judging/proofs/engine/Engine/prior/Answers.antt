use Rattle.std.proofs.Common.{ap, ◌∙◌}
use Rattle.recovery.specs.Lanes.{Lane, last_of}
use Rattle.judging.proofs.engine.Engine.prior.Goals as goal

pub returns : goal.returns
returns g c = λ rules log stands. c.prior.ensures ∙ ap (λ (l : Lane). last_of l.unskipped) (stands.lanes c.args.name.now)
