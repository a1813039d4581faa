use Rattle.std.proofs.Common.{ap, ◌∙◌}
use Rattle.std.specs.Prelude.{nat_lt}
use Rattle.std.specs.List.{list_any}
use Rattle.recovery.specs.Lanes.{lane_of}
use Rattle.judging.proofs.Takes.{may_rescue_is}
use Rattle.judging.proofs.engine.Engine.may_rescue.Goals as goal

pub returns : goal.returns
returns g c = λ rules log stands.
    c.is_pending_after.ensures ∙ ap (λ s. list_any (nat_lt s.above) (lane_of c.args.self.now.book.marks c.args.name.now).pending) c.place_before-stands.ensures ∙ may_rescue_is rules log c.args.self.now stands c.args.name.now
