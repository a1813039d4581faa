use Rattle.std.proofs.Common.{sym, ◌∙◌}
use Rattle.approvals.proofs.Finding.{no_envelope, other_envelope, this_envelope}
use Rattle.approvals.proofs.lookups.approval_of.Goals as goal

pub returns-in_default-clause-found : goal.returns-in_default-clause-found
returns-in_default-clause-found c =
    no_envelope c.args.name.now c.args.from.now c.args.tree.now c.args.bytes.now (sym c.in_default.is ∙ c.in_ok-envelope.ensures.found)

pub returns-then-not-is-clause-found : goal.returns-then-not-is-clause-found
returns-then-not-is-clause-found c =
    other_envelope c.args.name.now c.args.from.now c.args.tree.now c.args.bytes.now c.in-Some.envelope (sym c.in-Some.is ∙ c.in_ok-envelope.ensures.found) (sym c.in_ok-is.ensures.is ∙ c.if-not-is.true)

pub returns-clause-found : goal.returns-clause-found
returns-clause-found c =
    this_envelope c.args.name.now c.args.from.now c.args.tree.now c.args.bytes.now c.in-Some.envelope (sym c.in-Some.is ∙ c.in_ok-envelope.ensures.found) (sym c.in_ok-is.ensures.is ∙ c.if-not-is.false)
