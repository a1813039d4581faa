use Rattle.std.proofs.Common.{ap, sym, ◌∙◌, length}
use Rattle.std.proofs.lemmas.Bool.{eqb-true}
use Rattle.rule_delegations.proofs.Faults.{no_file}
use Rattle.rule_delegations.proofs.assembling.forest_of.Goals as goal

pub returns-then-is_empty-clause-policy : goal.returns-then-is_empty-clause-policy
returns-then-is_empty-clause-policy c = (no_file c.args.files (
    ap length (sym c.in_ok-forest.ensures) ∙ ap length (sym c.files.ensures.value) ∙ eqb-true (length c.files.result.now) 0 (sym c.is_empty.ensures ∙ c.if-is_empty.true))).0
