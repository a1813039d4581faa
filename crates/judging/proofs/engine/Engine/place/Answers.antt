use Rattle.std.proofs.Common.{sym, ◌∙◌}
use Rattle.judging.proofs.engine.Engine.place.Goals as goal

pub returns : goal.returns
returns g c = λ rules log stands i.
    let is = stands.places c.args.id.now i in
    (λ e. is.0 (sym c.place.ensures ∙ e), λ w. c.place.ensures ∙ is.1 w)
