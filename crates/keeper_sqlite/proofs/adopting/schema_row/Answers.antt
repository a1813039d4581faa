use Rattle.std.proofs.Common.{not, ap, sym, subst, ◌∙◌}
use Rattle.sqlite.specs.Given.{IsPlain}
use Rattle.sqlite.specs.Held.{state}
use Rattle.sqlite.specs.Listing.{understood}
use Rattle.keeper_sqlite.proofs.Selecting.{clean_if_open, query_open, query_same}
use Rattle.keeper_sqlite.proofs.Texts.{schema_plain, schema_text}
use Rattle.keeper_sqlite.proofs.adopting.schema_row.Goals as goal

pub returns-clause-was_open : goal.returns-clause-was_open
returns-clause-was_open g c = λ now. query_open (state g.S.Store c.args.conn.now) (state g.S.Store c.query_row.new.self) _ _ _ (c.query_row.ensures.row (clean_if_open _ _ (g.met.S.Store.shut_if_dirty c.query_row.new.self.store) now)) now

pub returns-clause-same : goal.returns-clause-same
returns-clause-same g c = λ now has. query_same (state g.S.Store c.args.conn.now) (state g.S.Store c.query_row.new.self) schema_text _ (λ was. c.is_autocommit.ensures.settled (c.is_autocommit.ensures.value ∙ ap not c.requires.idle) was)
    (subst (λ s. IsPlain (understood s schema_text)) (sym has) schema_plain) _ (c.query_row.ensures.row (clean_if_open _ _ (g.met.S.Store.shut_if_dirty c.query_row.new.self.store) now)) now
