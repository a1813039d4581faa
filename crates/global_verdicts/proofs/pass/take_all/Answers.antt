use Rattle.std.proofs.Common.{refl, rules, [], subst, ◌∙◌}
use Rattle.std.proofs.lemmas.List.{take_all}
use Rattle.entry_rules.specs.RealRules.{real_rules}
use Rattle.keeper_api.proofs.Coming.{as_before_then}
use Rattle.verify_ref.specs.Logs.{AreEntries}
use Rattle.verify_ref.proofs.Walking.{unbroken}
use Rattle.global_verdicts.proofs.Walked.{judged_next}
use Rattle.global_verdicts.proofs.pass.take_all.Goals as goal

pub ids-init : goal.ids-init
ids-init g c = record {
  so = λ r told. ([], refl, c.requires.none);
  rules = refl;
  name = refl;
  known = c.requires.known;
  same = search rules;
  quiet = refl;
}

pub ids-preserved : goal.ids-preserved
ids-preserved g c = record {
  so = λ r told.
      let was = c.ids.invariant.so r (c.take.ensures.same.content r told) in
      judged_next r c.args.ids.now c.ids.id-index c.id-item.result c.ids-test.true c.id-item.is was.0 c.ids.pass c.take.new.pass was.1 was.2 (c.in-Ok.ensures.taken r told);
  rules = c.take.ensures.rules ∙ c.ids.invariant.rules;
  name = c.take.ensures.name ∙ c.ids.invariant.name;
  known = c.take.ensures.known;
  same = as_before_then g.R.Keeper c.args.keeper.now c.ids.keeper c.take.new.keeper
      c.ids.invariant.same c.take.ensures.same;
  quiet = search rules;
}

pub returns-in-Err-clause-unbroken : goal.returns-in-Err-clause-unbroken
returns-in-Err-clause-unbroken g c = λ r told is_log.
    let was = c.ids.invariant.so r (c.take.ensures.same.content r told) in
    unbroken (real_rules c.ids.pass.engine.rules.anchor) r c.args.ids.now c.ids.id-index c.id-item.result c.ids-test.true c.id-item.is c.ids.pass.engine.entries was.0 was.1 was.2.follows c.in-Err.fault (c.in-Err.ensures.broken r told) is_log

pub returns-clause-stands : goal.returns-clause-stands
returns-clause-stands g c = λ r told.
    let was = c.ids.invariant.so r told in
    (was.0, subst (λ xs. AreEntries r xs was.0) (take_all c.ids.id-index c.args.ids.now c.ids-test.false) was.1, was.2)
