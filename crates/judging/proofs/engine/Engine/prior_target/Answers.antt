use Rattle.std.proofs.Common.{ap, sym, ◌∙◌}
use Rattle.std.specs.Option.{option_and_then}
use Rattle.judging.specs.Books.{kept_target}
use Rattle.judging.proofs.Takes.{prior_target_is}
use Rattle.judging.proofs.engine.Engine.prior_target.Goals as goal

pub returns : goal.returns
returns g c = λ rules log stands.
    c.target.ensures ∙ ap (λ o. option_and_then (kept_target c.args.self.now.book) o) (sym c.in_ok-prior.was ∙ c.prior.ensures) ∙ prior_target_is rules log c.args.self.now stands c.args.name.now
