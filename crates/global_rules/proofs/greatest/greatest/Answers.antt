use Rattle.std.proofs.Common.{◌∙◌, List, ap, subst, sym}
use Rattle.std.specs.Prelude.{IsSome}
use Rattle.std.specs.List.{All}
use Rattle.rule_delegations.specs.Chains.{rule_at}
use Rattle.rule_delegations.specs.Reached.{Name}
use Rattle.rule_delegations.specs.declared.places.RuleRef.{RuleRef}
use Rattle.global_rules.specs.Greatest.{greatest_at}
use Rattle.global_rules.proofs.Maxima.{same_greatest}
use Rattle.global_rules.proofs.greatest.greatest.Goals as goal

pub greatest_at-requires : goal.greatest_at-requires
greatest_at-requires c = subst (λ (places : List RuleRef). All (λ (place : RuleRef). IsSome (rule_at c.args.rules.now place)) places) (sym c.as_slice.ensures.value) c.in_ok-places.ensures.places

pub returns : goal.returns
returns c =
    let name : Name = record { space = c.args.space; text = c.args.text.now } in
    c.greatest_at.ensures
    ∙ ap (greatest_at c.args.rules.now c.args.signers.now) c.as_slice.ensures.value
    ∙ same_greatest c.args.rules.now name c.args.signers.now c.files-files.ensures.policy c.in_ok-places.places.items c.in_ok-places.ensures.reached
