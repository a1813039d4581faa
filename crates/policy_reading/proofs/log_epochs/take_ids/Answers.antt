use Rattle.std.proofs.Common.{◌∙◌, ◌+◌, ap, arith, refl, rules}
use Rattle.std.proofs.lemmas.List.Sums.{sum_by-take-le, sum_by_more}
use Rattle.keeper_api.proofs.Coming.{as_before_then}
use Rattle.policy_reading.specs.Reading.{entry_reads}
use Rattle.policy_reading.proofs.Passing.{all_taken, misses, none_taken, one_more}
use Rattle.policy_reading.proofs.log_epochs.take_ids.Goals as goal

pub ids-init : goal.ids-init
ids-init g c = record {
  anchor = refl;
  stands = λ r told. none_taken r c.args.ids.now c.args.epochs.now c.requires;
  reads = λ r told. omega arith;
  same = search rules;
  quiet = refl;
}

pub returns-in-Err-clause-broken : goal.returns-in-Err-clause-broken
returns-in-Err-clause-broken g c = λ r told.
    misses r c.args.ids.now c.ids.id-index c.id-item.result c.ids.epochs c.in-Err.fault c.ids-test.true c.id-item.is (c.ids.invariant.stands r (c.in-Err.ensures.same.content r told)) (c.in-Err.ensures.broken r told)
    c.in-Err.ensures.named

pub ids-preserved : goal.ids-preserved
ids-preserved g c = record {
  anchor = c.in-Ok.ensures.anchor ∙ c.ids.invariant.anchor;
  stands = λ r told. one_more r c.args.ids.now c.ids.id-index c.id-item.result c.ids.epochs c.take_id.new.epochs c.ids-test.true c.id-item.is (c.in-Ok.ensures.takes r told)
      (c.ids.invariant.stands r (c.in-Ok.ensures.same.content r told));
  reads = λ r told.
      let before = c.ids.invariant.reads r (c.in-Ok.ensures.same.content r told) in
      let next = sum_by_more (entry_reads r) c.args.ids.now c.ids.id-index c.id-item.result c.ids-test.true in
      let here = ap (entry_reads r) c.id-item.is in
      omega (arith, before, next, here, c.in-Ok.ensures.reads r told);
  same = as_before_then g.R.Keeper c.args.keeper.now c.ids.keeper c.take_id.new.keeper
      c.ids.invariant.same c.in-Ok.ensures.same;
  quiet = search rules;
}

pub returns-clause-stands : goal.returns-clause-stands
returns-clause-stands g c = λ r told. all_taken r c.args.ids.now c.ids.id-index c.ids.epochs c.ids-test.false c.ids.auto.id-index-end (c.ids.invariant.stands r told)

pub returns-in-Err-clause-reads : goal.returns-in-Err-clause-reads
returns-in-Err-clause-reads g c = λ r told.
    let before = c.ids.invariant.reads r (c.in-Err.ensures.same.content r told) in
    let next = sum_by_more (entry_reads r) c.args.ids.now c.ids.id-index c.id-item.result c.ids-test.true in
    let here = ap (entry_reads r) c.id-item.is in
    let all = sum_by-take-le (entry_reads r) c.args.ids.now (c.ids.id-index + 1) in
    omega (arith, before, next, here, all, c.in-Err.ensures.reads r told)

pub returns-clause-reads : goal.returns-clause-reads
returns-clause-reads g c = λ r told. omega (arith, c.ids.invariant.reads r told, sum_by-take-le (entry_reads r) c.args.ids.now c.ids.id-index)
