use Rattle.std.proofs.Common.{ap, sym, ◌∙◌}
use Rattle.accounts.specs.Rows.{prior_of}
use Rattle.accounts.proofs.rows.prior_of.Goals as goal

pub returns-in-Reference : goal.returns-in-Reference
returns-in-Reference c = λ rules log stands. c.prior.ensures rules log stands ∙ ap (prior_of rules log) (sym c.in-Reference.is)
