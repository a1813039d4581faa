use Rattle.std.proofs.Common.{not, ap, ◌∙◌}
use Rattle.sqlite.specs.Held.{state}
use Rattle.keeper_sqlite.proofs.Selecting.{clean_if_open, query_open, query_same, plain_survives, row_opens, none_opens}
use Rattle.keeper_sqlite.proofs.statements.select_row.Goals as goal

pub returns-in-Ok-clause-was_open : goal.returns-in-Ok-clause-was_open
returns-in-Ok-clause-was_open g c = λ now. query_open (state g.S.Store c.args.conn.now) (state g.S.Store c.query_row.new.self) _ _ _ (c.in-Ok.ensures.row (clean_if_open _ _ (g.met.S.Store.shut_if_dirty c.query_row.new.self.store) now)) now

pub returns-in-Ok-clause-same : goal.returns-in-Ok-clause-same
returns-in-Ok-clause-same g c = λ now plain. query_same (state g.S.Store c.args.conn.now) (state g.S.Store c.query_row.new.self) _ _ (λ was. c.is_autocommit.ensures.settled (c.is_autocommit.ensures.value ∙ ap not c.requires.idle) was) plain _ (c.in-Ok.ensures.row (clean_if_open _ _ (g.met.S.Store.shut_if_dirty c.query_row.new.self.store) now)) now

pub returns-in-Ok-clause-row : goal.returns-in-Ok-clause-row
returns-in-Ok-clause-row g c = λ now. rw c.params-to_sql.ensures at (c.in-Ok.ensures.row (clean_if_open _ _ (g.met.S.Store.shut_if_dirty c.query_row.new.self.store) now))

pub returns-in-Ok-clause-survives : goal.returns-in-Ok-clause-survives
returns-in-Ok-clause-survives g c = λ plain. plain_survives _ _ (state g.S.Store c.args.conn.now) (state g.S.Store c.query_row.new.self) plain c.query_row.ensures.survives

pub returns-in-Err-QueryReturnedNoRows-clause-was_open : goal.returns-in-Err-QueryReturnedNoRows-clause-was_open
returns-in-Err-QueryReturnedNoRows-clause-was_open g c = λ now. query_open (state g.S.Store c.args.conn.now) (state g.S.Store c.query_row.new.self) _ _ _ (c.in-Err-QueryReturnedNoRows.ensures.row (clean_if_open _ _ (g.met.S.Store.shut_if_dirty c.query_row.new.self.store) now)) now

pub returns-in-Err-QueryReturnedNoRows-clause-same : goal.returns-in-Err-QueryReturnedNoRows-clause-same
returns-in-Err-QueryReturnedNoRows-clause-same g c = λ now plain. query_same (state g.S.Store c.args.conn.now) (state g.S.Store c.query_row.new.self) _ _ (λ was. c.is_autocommit.ensures.settled (c.is_autocommit.ensures.value ∙ ap not c.requires.idle) was) plain _ (c.in-Err-QueryReturnedNoRows.ensures.row (clean_if_open _ _ (g.met.S.Store.shut_if_dirty c.query_row.new.self.store) now)) now

pub returns-in-Err-QueryReturnedNoRows-clause-row : goal.returns-in-Err-QueryReturnedNoRows-clause-row
returns-in-Err-QueryReturnedNoRows-clause-row g c = λ now. rw (c.params-to_sql.ensures, c.in-Err-QueryReturnedNoRows.field-0-is) at (c.in-Err-QueryReturnedNoRows.ensures.row (clean_if_open _ _ (g.met.S.Store.shut_if_dirty c.query_row.new.self.store) now))

pub returns-in-Err-QueryReturnedNoRows-clause-survives : goal.returns-in-Err-QueryReturnedNoRows-clause-survives
returns-in-Err-QueryReturnedNoRows-clause-survives g c = λ plain. plain_survives _ _ (state g.S.Store c.args.conn.now) (state g.S.Store c.query_row.new.self) plain c.query_row.ensures.survives

pub returns-in-Err-clause-was_open : goal.returns-in-Err-clause-was_open
returns-in-Err-clause-was_open g c = λ now. query_open (state g.S.Store c.args.conn.now) (state g.S.Store c.query_row.new.self) _ _ _ (c.in-Err.ensures.row (clean_if_open _ _ (g.met.S.Store.shut_if_dirty c.query_row.new.self.store) now)) now

pub returns-in-Err-clause-same : goal.returns-in-Err-clause-same
returns-in-Err-clause-same g c = λ now plain. query_same (state g.S.Store c.args.conn.now) (state g.S.Store c.query_row.new.self) _ _ (λ was. c.is_autocommit.ensures.settled (c.is_autocommit.ensures.value ∙ ap not c.requires.idle) was) plain _ (c.in-Err.ensures.row (clean_if_open _ _ (g.met.S.Store.shut_if_dirty c.query_row.new.self.store) now)) now

pub returns-in-Err-clause-survives : goal.returns-in-Err-clause-survives
returns-in-Err-clause-survives g c = λ plain. plain_survives _ _ (state g.S.Store c.args.conn.now) (state g.S.Store c.query_row.new.self) plain c.query_row.ensures.survives

pub returns-in-Ok-clause-answered : goal.returns-in-Ok-clause-answered
returns-in-Ok-clause-answered g c = λ clean. row_opens (state g.S.Store c.args.conn.now) (state g.S.Store c.query_row.new.self) _ _ _ (c.in-Ok.ensures.row clean)

pub returns-in-Err-QueryReturnedNoRows-clause-answered : goal.returns-in-Err-QueryReturnedNoRows-clause-answered
returns-in-Err-QueryReturnedNoRows-clause-answered g c = λ clean. none_opens (state g.S.Store c.args.conn.now) (state g.S.Store c.query_row.new.self) _ _ (rw c.in-Err-QueryReturnedNoRows.field-0-is at (c.in-Err-QueryReturnedNoRows.ensures.row clean))
