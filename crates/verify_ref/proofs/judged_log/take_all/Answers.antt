use Rattle.std.proofs.Common.{refl, rules, [], arith, subst, sym}
use Rattle.std.proofs.lemmas.List.{take_all}
use Rattle.entry_rules.specs.RealRules.{real_rules}
use Rattle.keeper_api.proofs.Coming.{as_before_then}
use Rattle.verify_ref.specs.Logs.{AreEntries}
use Rattle.verify_ref.proofs.Walking.{breaks, taken_more, unbroken}
use Rattle.verify_ref.proofs.Growing.{reads_more}
use Rattle.verify_ref.proofs.judged_log.take_all.Goals as goal

pub ids-init : goal.ids-init
ids-init g c = record {
  so = λ r told. ([], refl, c.requires);
  known = λ r told. c.new-known.ensures r;
  reads = λ r log told are bounded. omega arith;
  same = search rules;
  quiet = refl;
}

pub ids-preserved : goal.ids-preserved
ids-preserved g c = record {
  so = λ r told.
      let was = c.ids.invariant.so r (c.take.ensures.same.content r told) in
      taken_more (real_rules c.args.rules.now.anchor) r c.args.ids.now c.ids.id-index c.id-item.result c.ids-test.true c.id-item.is c.ids.engine was.0 was.1 was.2 c.take.new.engine (c.in-Ok.ensures.taken r told);
  known = c.take.ensures.known;
  reads = λ r more told are bounded.
      let before = c.take.ensures.same.content r told in
      let was = c.ids.invariant.so r before in
      let step = c.in-Ok.ensures.taken r told in
      reads_more (real_rules c.args.rules.now.anchor) r c.args.ids.now c.ids.id-index c.id-item.result c.ids-test.true c.id-item.is was.0 was.1 step.entry step.there _ _ _
      (c.ids.invariant.reads r was.0 before was.1) (c.in-Ok.ensures.reads r was.0 step.entry told was.2 step.there) more are bounded;
  same = as_before_then g.R.Keeper c.args.keeper.now c.ids.keeper c.take.new.keeper
      c.ids.invariant.same c.take.ensures.same;
  quiet = search rules;
}

pub returns-in-Err-clause-unbroken : goal.returns-in-Err-clause-unbroken
returns-in-Err-clause-unbroken g c = λ r told is_log.
    let was = c.ids.invariant.so r (c.take.ensures.same.content r told) in
    unbroken (real_rules c.args.rules.now.anchor) r c.args.ids.now c.ids.id-index c.id-item.result c.ids-test.true c.id-item.is c.ids.engine was.0 was.1 was.2 c.in-Err.fault (c.in-Err.ensures.broken r told) is_log

pub returns-in-Err-clause-broken : goal.returns-in-Err-clause-broken
returns-in-Err-clause-broken g c = λ r told.
    let was = c.ids.invariant.so r (c.take.ensures.same.content r told) in
    breaks (real_rules c.args.rules.now.anchor) r c.args.ids.now c.ids.id-index c.id-item.result c.ids-test.true c.id-item.is c.ids.engine was.0 was.1 was.2 c.in-Err.fault (c.in-Err.ensures.broken r told) c.in-Err.ensures.named

pub returns-clause-stands : goal.returns-clause-stands
returns-clause-stands g c = λ r told.
    let was = c.ids.invariant.so r told in
    (was.0, subst (λ xs. AreEntries r xs was.0) (take_all c.ids.id-index c.args.ids.now c.ids-test.false) was.1, was.2)

pub returns-clause-reads : goal.returns-clause-reads
returns-clause-reads g c = λ r log told are bounded. c.ids.invariant.reads r log told (subst (λ xs. AreEntries r xs log) (sym (take_all c.ids.id-index c.args.ids.now c.ids-test.false)) are) bounded
