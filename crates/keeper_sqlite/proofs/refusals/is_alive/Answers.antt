use Rattle.std.proofs.Common.{not, ap, ◌∙◌}
use Rattle.sqlite.specs.Held.{state}
use Rattle.keeper_sqlite.proofs.Selecting.{clean_if_open, prepared_open, prepared_same}
use Rattle.keeper_sqlite.proofs.refusals.is_alive.Goals as goal

pub returns-clause-was_open : goal.returns-clause-was_open
returns-clause-was_open g c = λ now. prepared_open _ (state g.S.Store c.args.conn.now) (state g.S.Store c.prepare.new.self) _ c.prepare.result (c.prepare.ensures.ok (clean_if_open _ _ (g.met.S.Store.shut_if_dirty c.prepare.new.self.store) now)) (c.prepare.ensures.err (clean_if_open _ _ (g.met.S.Store.shut_if_dirty c.prepare.new.self.store) now)) now

pub returns-clause-same : goal.returns-clause-same
returns-clause-same g c = λ now. prepared_same _ (state g.S.Store c.args.conn.now) (state g.S.Store c.prepare.new.self) _ c.prepare.result (λ was. c.is_autocommit.ensures.settled (c.is_autocommit.ensures.value ∙ ap not c.requires.idle) was)
    (c.prepare.ensures.ok (clean_if_open _ _ (g.met.S.Store.shut_if_dirty c.prepare.new.self.store) now)) (c.prepare.ensures.err (clean_if_open _ _ (g.met.S.Store.shut_if_dirty c.prepare.new.self.store) now)) now
