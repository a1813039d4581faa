use Rattle.std.proofs.Common.{List, subst, sym}
use Rattle.std.specs.Prelude.{IsSome}
use Rattle.std.specs.List.{All}
use Rattle.rule_delegations.specs.Chains.{rule_at}
use Rattle.rule_delegations.specs.declared.places.RuleRef.{RuleRef}
use Rattle.commands_policy.proofs.Listed.{explained}
use Rattle.commands_policy.proofs.rule_lines.rules_text.Goals as goal

pub lines_of-requires : goal.lines_of-requires
lines_of-requires c = subst (λ (places : List RuleRef). All (λ (place : RuleRef). IsSome (rule_at c.args.rules.now place)) places) (sym c.as_slice.ensures.value) c.in-Ok.ensures.places

pub returns-in-Ok-lines_of : goal.returns-in-Ok-lines_of
returns-in-Ok-lines_of c =
    explained c.args.rules.now (record { space = c.args.space; text = c.args.name.now }) c.in-Ok.places.items c.as_slice.result.now c.in-Ok-lines_of.text c.as_slice.ensures.value c.in-Ok.ensures.reached c.in-Ok-lines_of.ensures
