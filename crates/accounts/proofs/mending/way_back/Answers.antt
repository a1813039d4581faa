use Rattle.std.proofs.Common.{◌∙◌, ℕ, List, Option, sym, subst}
use Rattle.std.proofs.lemmas.Bool.{true≢false}
use Rattle.judging.specs.Logs.{above, prior_target}
use Rattle.entry_rules.specs.RealRules.{real_rules}
use Rattle.judged_logs.specs.Walking.{IsWalked}
use Rattle.judged_logs.proofs.Walks.{begins, prior_is, skips_are, target_is}
use Rattle.accounts.proofs.mending.way_back.Goals as goal

pub back-init : goal.back-init
back-init c = λ log stands.
    let rules = real_rules c.args.judged.now.engine.rules.anchor in
    let name = c.args.name.now in
    subst (λ (n : ℕ). IsWalked rules log name c.args.number n c.prior_target.result c.new.result) (sym (c.last_of.ensures log stands))
    (subst (λ (o : Option (List ℕ)). IsWalked rules log name c.args.number (above rules log name) o c.new.result) (sym (c.prior_target.ensures log stands.follows))
    (subst (λ (ns : List ℕ). IsWalked rules log name c.args.number (above rules log name) (prior_target rules log name) ns) (sym c.new.ensures) (begins rules log name c.args.number)))

pub returns-clause-skips : goal.returns-clause-skips
returns-clause-skips c = λ log stands.
    let rules = real_rules c.args.judged.now.engine.rules.anchor in
    let walked = c.back.invariant log stands in
    skips_are rules log c.args.name.now c.args.number c.back.way.at c.back.way.from c.back.way.found walked (c.goes_on.ensures.ended (λ h. true≢false (sym h ∙ c.back-test.false)) log stands walked.within)

pub returns-clause-prior : goal.returns-clause-prior
returns-clause-prior c = λ log stands.
    let rules = real_rules c.args.judged.now.engine.rules.anchor in
    let walked = c.back.invariant log stands in
    prior_is rules log c.args.name.now c.args.number c.back.way.at c.back.way.from c.back.way.found walked (c.goes_on.ensures.ended (λ h. true≢false (sym h ∙ c.back-test.false)) log stands walked.within)

pub returns-clause-from : goal.returns-clause-from
returns-clause-from c = λ log stands.
    let rules = real_rules c.args.judged.now.engine.rules.anchor in
    let walked = c.back.invariant log stands in
    target_is rules log c.args.name.now c.args.number c.back.way.at c.back.way.from c.back.way.found walked (c.goes_on.ensures.ended (λ h. true≢false (sym h ∙ c.back-test.false)) log stands walked.within)
