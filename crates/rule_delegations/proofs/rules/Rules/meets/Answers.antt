use Rattle.std.proofs.Common.{refl, sym, ◌∙◌}
use Rattle.rule_delegations.proofs.Tellings.{by_first, met_meets}
use Rattle.rule_delegations.proofs.rules.Rules.meets.Goals as goal

pub returns-in-Met : goal.returns-in-Met
returns-in-Met c = (
  λ t. rw (← c.self.view_is) (met_meets c.self.inside.forest (record { space = c.args.space; text = c.args.text.now }) c.args.signers.now c.self.invariant c.in-Met.ensures),
  λ m. refl,
)

pub returns-in_default : goal.returns-in_default
returns-in_default c =
    rw (← c.self.view_is) (by_first c.self.inside.forest (record { space = c.args.space; text = c.args.text.now }) c.args.signers.now c.self.invariant
    c.first_reached.result c.is_none.result c.is_none.ensures (rw (← c.self.view_is) at c.first_reached.ensures.first) (λ e. c.in_default.not-Met (c.tell_file.ensures ∙ sym e)))
