use Rattle.std.proofs.Common.{Option, List, ℕ, ap, subst, sym, ◌∙◌}
use Rattle.std.specs.Option.{option_copied}
use Rattle.judging.specs.Logs.{last_signers, policy_after}
use Rattle.policy_epochs.specs.declared.policies.Policy.{Policy}
use Rattle.entry_rules.specs.RealRules.{real_rules}
use Rattle.global_rules.specs.declared.whys.Change.{Change}
use Rattle.global_verdicts.specs.Rows.{IsUnder, change_by}
use Rattle.global_verdicts.proofs.Taking.{row_judged, row_other}
use Rattle.global_verdicts.proofs.pass.row_of.Goals as goal

pub returns-then-not-is_judged-clause-row : goal.returns-then-not-is_judged-clause-row
returns-then-not-is_judged-clause-row g c = λ r log told follows.
    let rules = real_rules c.args.pass.now.engine.rules.anchor in
    row_other r c.args.pass.now.name (policy_after rules log) c.args.pass.now.file c.args.from.now (last_signers rules log) c.args.entry.now.body c.is_own-own.result c.is_own-own.ensures
    (sym c.is_judged.ensures ∙ c.if-not-is_judged.true)

pub returns-clause-row : goal.returns-clause-row
returns-clause-row g c = λ r log told follows.
    let rules = real_rules c.args.pass.now.engine.rules.anchor in
    let name = c.args.pass.now.name in
    let body = c.args.entry.now.body in
    let change = c.in_ok-change.ensures ∙ ap (λ (signers : List (List ℕ)). change_by name c.args.from.now signers body) (c.signers.ensures log follows) in
    let under = c.in_ok-why.ensures.why r told in
    let changed = subst (λ (it : Change). IsUnder r (option_copied c.policy.result) c.args.pass.now.file it c.in_ok-why.why) change under in
    row_judged r name (policy_after rules log) c.args.pass.now.file c.args.from.now (last_signers rules log) body c.is_own-own.result c.is_own-own.ensures c.in_ok-why.why
    (sym c.is_judged.ensures ∙ c.if-not-is_judged.false)
    (subst (λ (policy : Option Policy). IsUnder r policy c.args.pass.now.file (change_by name c.args.from.now (last_signers rules log) body) c.in_ok-why.why) (c.policy.ensures log follows) changed)
