use Rattle.judging.proofs.Notes.{skipped_is}
use Rattle.judging.proofs.engine.Engine.skipped.Goals as goal

pub returns : goal.returns
returns g c = λ rules log stands.
    let is = skipped_is rules log c.args.self.now stands c.args.number in
    (λ yes. is.0 (c.is_skipped.ensures.0 yes), λ w. c.is_skipped.ensures.1 (is.1 w))
