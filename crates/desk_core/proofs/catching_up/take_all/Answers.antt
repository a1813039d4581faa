use Rattle.std.proofs.Common.{◌≡◌, ◌++◌, ◌∙◌, ap, arith, length, refl, rules, subst, sym}
use Rattle.std.proofs.lemmas.List.{take_all}
use Rattle.keeper_api.proofs.Coming.{as_before_then}
use Rattle.verify_ref.specs.Logs.{AreEntries}
use Rattle.pushes.specs.Steps.{ids_of}
use Rattle.desk_core.specs.Lagging.{TakesAll}
use Rattle.desk_core.proofs.Behind.{breaks, next_taken, none_yet, reads_more, some_taken}
use Rattle.desk_core.proofs.catching_up.take_all.Goals as goal

pub rows-init : goal.rows-init
rows-init g c = record {
  takes = λ r log told follows. none_yet r log c.args.engine.now follows;
  reads = λ r log more told follows are bounded. omega arith;
  unread = λ first. refl;
  rules = refl;
  known = c.requires.known;
  same = search rules;
  quiet = refl;
}

pub rows-preserved : goal.rows-preserved
rows-preserved g c = record {
  takes = λ r log told follows.
      let was = c.rows.invariant.takes r log (c.take_one.ensures.same.content r told) follows in
      next_taken r log c.args.rows.now c.rows.row-index c.rows.engine was c.row-item.result c.rows-test.true c.row-item.is c.take_one.new.engine (c.in-Ok.ensures.takes r (log ++ was.more) told was.follows);
  reads = λ r log more told follows are bounded.
      let before = c.take_one.ensures.same.content r told in
      let was = c.rows.invariant.takes r log before follows in
      let step = c.in-Ok.ensures.takes r (log ++ was.more) told was.follows in
      reads_more r log c.args.rows.now c.rows.row-index c.row-item.result c.rows-test.true c.row-item.is c.args.engine.now c.rows.engine c.take_one.new.engine c.rows.invariant.rules was step _ _ _
      (λ all. c.rows.invariant.reads r log was.more before follows was.entries all) (λ entry there ok. c.in-Ok.ensures.reads r (log ++ was.more) entry told was.follows there ok) more are bounded;
  unread = λ first. absurd (omega (arith, first));
  rules = c.take_one.ensures.rules ∙ c.rows.invariant.rules;
  known = c.take_one.ensures.known;
  same = as_before_then g.R.Keeper c.args.keeper.now c.rows.keeper c.take_one.new.keeper c.rows.invariant.same c.take_one.ensures.same;
  quiet = search rules;
}

pub returns-in-Err-clause-front : goal.returns-in-Err-clause-front
returns-in-Err-clause-front g c = λ r log told follows.
    some_taken r log c.args.rows.now c.rows.row-index c.rows.engine (c.rows.invariant.takes r log (c.take_one.ensures.same.content r told) follows) c.take_one.new.engine (λ l f. c.in-Err.ensures.refused l f)

pub returns-in-Err-clause-broken : goal.returns-in-Err-clause-broken
returns-in-Err-clause-broken g c = λ r log told follows.
    let was = c.rows.invariant.takes r log (c.take_one.ensures.same.content r told) follows in
    breaks r log c.args.rows.now c.rows.row-index c.rows.engine was c.row-item.result c.rows-test.true c.row-item.is c.in-Err.fault (c.in-Err.ensures.astray r told) c.in-Err.ensures.named

pub returns-in-Err-clause-free : goal.returns-in-Err-clause-free
returns-in-Err-clause-free g c = λ none. (let empty = ap length none in absurd (omega (arith, empty, c.rows-test.true)))

pub returns-clause-takes : goal.returns-clause-takes
returns-clause-takes g c = λ r log told follows. subst (λ xs. TakesAll r log (ids_of xs) c.rows.engine) (take_all c.rows.row-index c.args.rows.now c.rows-test.false) (c.rows.invariant.takes r log told follows)

pub returns-clause-reads : goal.returns-clause-reads
returns-clause-reads g c = λ r log more told follows are bounded.
    c.rows.invariant.reads r log more told follows (subst (λ xs. AreEntries r (ids_of xs) more) (sym (take_all c.rows.row-index c.args.rows.now c.rows-test.false)) are) bounded

pub returns-clause-free : goal.returns-clause-free
returns-clause-free g c = λ none.
    let empty = ap length none in
    let first : c.rows.row-index ≡ 0 = omega (arith, empty, c.rows.auto.row-index-end) in
    c.rows.invariant.unread first
