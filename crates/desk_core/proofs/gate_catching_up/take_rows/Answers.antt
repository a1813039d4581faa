use Rattle.std.proofs.Common.{◌++◌, ◌∙◌, refl, rules, subst}
use Rattle.std.proofs.lemmas.List.{take_all}
use Rattle.keeper_api.proofs.Coming.{as_before_then}
use Rattle.pushes.specs.Steps.{ids_of}
use Rattle.desk_core.specs.Lagging.{TakesAll}
use Rattle.desk_core.proofs.Behind.{breaks, next_taken, none_yet}
use Rattle.desk_core.proofs.gate_catching_up.take_rows.Goals as goal

pub rows-init : goal.rows-init
rows-init g c = record {
  takes = λ r log told follows. none_yet r log c.args.engine.now follows;
  rules = refl;
  known = c.requires.known;
  same = search rules;
  quiet = refl;
}

pub rows-preserved : goal.rows-preserved
rows-preserved g c = record {
  takes = λ r log told follows.
      let was = c.rows.invariant.takes r log (c.take_row.ensures.same.content r told) follows in
      next_taken r log c.args.rows.now c.rows.row-index c.rows.engine was c.row-item.result c.rows-test.true c.row-item.is c.take_row.new.engine (c.in-Ok.ensures.takes r (log ++ was.more) told was.follows);
  rules = c.take_row.ensures.rules ∙ c.rows.invariant.rules;
  known = c.take_row.ensures.known;
  same = as_before_then g.R.Keeper c.args.keeper.now c.rows.keeper c.take_row.new.keeper c.rows.invariant.same c.take_row.ensures.same;
  quiet = search rules;
}

pub returns-in-Err-clause-broken : goal.returns-in-Err-clause-broken
returns-in-Err-clause-broken g c = λ r log told follows.
    let was = c.rows.invariant.takes r log (c.take_row.ensures.same.content r told) follows in
    breaks r log c.args.rows.now c.rows.row-index c.rows.engine was c.row-item.result c.rows-test.true c.row-item.is c.in-Err.fault (c.in-Err.ensures.astray r told) c.in-Err.ensures.named

pub returns-clause-takes : goal.returns-clause-takes
returns-clause-takes g c = λ r log told follows. subst (λ xs. TakesAll r log (ids_of xs) c.rows.engine) (take_all c.rows.row-index c.args.rows.now c.rows-test.false) (c.rows.invariant.takes r log told follows)
