use Rattle.std.proofs.Common.{refl, sym, ◌∙◌}
use Rattle.rule_delegations.proofs.Tellings.{listed_may, may_by_first}
use Rattle.rule_delegations.proofs.rules.Rules.lists.Goals as goal

pub returns-in-Met : goal.returns-in-Met
returns-in-Met c = (
  λ t. rw (← c.self.view_is) (listed_may c.self.inside.forest (record { space = c.args.space; text = c.args.text.now }) c.args.key.now c.self.invariant c.in-Met.ensures),
  λ m. refl,
)

pub returns-in_default : goal.returns-in_default
returns-in_default c =
    rw (← c.self.view_is) (may_by_first c.self.inside.forest (record { space = c.args.space; text = c.args.text.now }) c.args.key.now c.self.invariant
    c.first_reached.result c.is_none.result c.is_none.ensures (rw (← c.self.view_is) at c.first_reached.ensures.first) (λ e. c.in_default.not-Met (c.tell_file.ensures ∙ sym e)))
