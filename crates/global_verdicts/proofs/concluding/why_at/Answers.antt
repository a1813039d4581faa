use Rattle.std.proofs.Common.{◌+◌, Option, arith, subst, sym, ◌∙◌}
use Rattle.std.proofs.lemmas.Bool.{true≢false}
use Rattle.std.proofs.lemmas.Result.{IfOk-weaker}
use Rattle.entry_rules.specs.RealRules.{real_rules}
use Rattle.global_rules.specs.declared.whys.GlobalWhy.{GlobalWhy}
use Rattle.global_verdicts.specs.Verdicts.{IsWhyAt}
use Rattle.global_verdicts.proofs.Concluded.{skipped_keeps, why_here}
use Rattle.global_verdicts.proofs.concluding.why_at.Goals as goal

pub returns-then-skipped : goal.returns-then-skipped
returns-then-skipped c = λ log stands.
    let told = (c.skipped.ensures log stands.follows).0 c.if-skipped.true in
    skipped_keeps (real_rules c.args.pass.now.engine.rules.anchor) log c.args.pass.now.name (c.args.at + 1) told.3

pub returns : goal.returns
returns c = IfOk-weaker c.copied_why.result _ _ (λ why is log stands.
    let rules = real_rules c.args.pass.now.engine.rules.anchor in
    let name = c.args.pass.now.name in
    let here = why_here rules log name c.args.pass.now.rows stands.rows c.args.at c.row_at.result.now c.row_at.ensures
    (λ own skips. true≢false (sym ((c.skipped.ensures log stands.follows).1 (omega arith, name, own, skips)) ∙ c.if-skipped.false)) in
    subst (λ (found : Option GlobalWhy). IsWhyAt rules log name (c.args.at + 1) found) (sym is) here) c.copied_why.ensures
