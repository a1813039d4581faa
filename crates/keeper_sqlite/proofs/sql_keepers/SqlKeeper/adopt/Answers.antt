use Rattle.std.proofs.Common.{sym, ap, ◌∙◌}
use Rattle.sqlite.specs.Held.{state}
use Rattle.keeper_sqlite.specs.Rows.{repository_in}
use Rattle.keeper_sqlite.proofs.Keeping.{held_is, lawful_by, left_alone}
use Rattle.keeper_sqlite.proofs.Reopening.{store_by}
use Rattle.keeper_sqlite.proofs.Selecting.{clean_if_open}
use Rattle.keeper_sqlite.proofs.sql_keepers.SqlKeeper.adopt.Goals as goal

pub returns-clause-left : goal.returns-clause-left
returns-clause-left g c = left_alone c.is_store_schema-known.result (state g.S.Store c.in_ok-conn.conn) (lawful_by g.S.Store c.in_ok-conn.conn g.met.S.Store.shut_if_dirty g.met.S.Store.settled g.met.S.Store.stays)

pub returns-clause-held : goal.returns-clause-held
returns-clause-held g c = λ has r told.
    let held = held_is c.is_store_schema-known.result (state g.S.Store c.in_ok-conn.conn) r told in
    let clean = clean_if_open _ _ (g.met.S.Store.shut_if_dirty c.in_ok-conn.conn.store) held.0 in
    sym held.1 ∙ ap repository_in (c.in_ok-conn.ensures.kept clean has)

pub invariant_of-result : goal.invariant_of-result
invariant_of-result g c = record {
  idle = c.in_ok-conn.ensures.idle;
  store = λ known o.
      let clean = clean_if_open _ _ (g.met.S.Store.shut_if_dirty c.in_ok-conn.conn.store) o in
      store_by (state g.S.Store c.in_ok-conn.conn).now (sym c.schema.ensures.value ∙ c.is_store_schema-known.ensures.0 known) (c.schema.ensures.live o).0 (c.in_ok-conn.ensures.shaped clean);
}

pub returns-clause-tells : goal.returns-clause-tells
returns-clause-tells g c = λ clean has. c.is_store_schema-known.ensures.1 (c.schema.ensures.value ∙ c.in_ok-conn.ensures.schema clean has)
