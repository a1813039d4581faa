use Rattle.std.proofs.Common.{is_some, ap, ◌∙◌}
use Rattle.placed_items.proofs.Placing.{has_place}
use Rattle.placed_items.proofs.placed.Placed.has.Goals as goal

pub returns : goal.returns
returns g c = c.is_some.ensures ∙ ap is_some c.place.ensures.place ∙ has_place g.T.Identified.id c.args.self.now c.args.id.now
