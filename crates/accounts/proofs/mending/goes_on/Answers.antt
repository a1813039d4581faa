use Rattle.std.proofs.Common.{◌≡◌, ◌∙◌, length, ap, arith, inl}
use Rattle.accounts.proofs.Rowed.{as_many}
use Rattle.accounts.proofs.mending.goes_on.Goals as goal
use Rattle.accounts.proofs.mending.goes_on.Goals.{then-at-eq0-via-then-at-eq0, then-at-eq0-via-else-at-eq0+then-len-at}

pub returns-then-at-eq0-clause-ended : goal.returns-then-at-eq0-clause-ended
returns-then-at-eq0-clause-ended c =
    elim c.then-at-eq0.branch [
      | then-at-eq0-via-then-at-eq0 w ↦ λ no log stands within. inl (omega arith)
      | then-at-eq0-via-else-at-eq0+then-len-at w ↦ λ no log stands within.
          absurd (let many : length c.args.judged.now.rows ≡ length log = ap length stands.rows ∙ as_many c.args.judged.now.engine.rules.anchor log in let long = w.len.ensures in omega arith)
    ]
