use Rattle.std.proofs.Common.{Some, None, refl, rules}
use Rattle.keeper_api.proofs.Coming.{as_before_then}
use Rattle.global_rules.proofs.Walked.{none_left, passed, stopped}
use Rattle.global_rules.proofs.entry_whys.first_why.Goals as goal

pub all-init : goal.all-init
all-init g c = record {
  rest = λ r told why is. is;
  same = search rules;
  quiet = refl;
}

pub all-preserved : goal.all-preserved
all-preserved g c = record {
  rest = λ r told why is.
      c.all.invariant.rest r (c.rule_why.ensures.same.content r told) why
      (passed r c.args.rules.now c.args.change.now c.args.paths.now c.args.all.now c.all.rule-index c.rule-item.result c.all-test.true c.rule-item.is c.in_ok-why.field-0 (c.in_ok-why.ensures.why r told) c.in_default.is why is);
  same = as_before_then g.R.Keeper c.args.keeper.now c.all.keeper c.rule_why.new.keeper
      c.all.invariant.same c.rule_why.ensures.same;
  quiet = search rules;
}

pub returns-in-Some-clause-why : goal.returns-in-Some-clause-why
returns-in-Some-clause-why g c = λ r told.
    c.all.invariant.rest r (c.rule_why.ensures.same.content r told) (Some c.in-Some.why)
    (stopped r c.args.rules.now c.args.change.now c.args.paths.now c.args.all.now c.all.rule-index c.rule-item.result c.all-test.true c.rule-item.is c.in_ok-why.field-0 c.in-Some.why (c.in_ok-why.ensures.why r told) c.in-Some.is)

pub returns-clause-why : goal.returns-clause-why
returns-clause-why g c = λ r told. c.all.invariant.rest r told None (none_left r c.args.rules.now c.args.change.now c.args.paths.now c.args.all.now c.all.rule-index c.all-test.false)
