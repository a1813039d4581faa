use Rattle.std.proofs.Common.{ap, sym, ◌∙◌}
use Rattle.std.specs.Option.{unwrap_or}
use Rattle.judged_logs.proofs.open.above_of.Goals as goal

pub returns-in-Some : goal.returns-in-Some
returns-in-Some g c = λ rules log stands. ap (λ o. unwrap_or o 0) (sym c.in-Some.is ∙ c.prior.ensures rules log stands)

pub returns-in-None : goal.returns-in-None
returns-in-None g c = λ rules log stands. ap (λ o. unwrap_or o 0) (sym c.in-None.is ∙ c.prior.ensures rules log stands)
