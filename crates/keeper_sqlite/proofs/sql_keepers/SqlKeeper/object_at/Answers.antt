use Rattle.std.proofs.Common.{Bool, sym, subst}
use Rattle.sqlite.specs.Held.{state}
use Rattle.keeper_sqlite.specs.Telling.{Looks}
use Rattle.keeper_sqlite.proofs.Keeping.{content_at, tells_at, left_at, lawful_by, looked}
use Rattle.keeper_sqlite.proofs.sql_keepers.SqlKeeper.object_at.Goals as goal

pub returns-clause-same : goal.returns-clause-same
returns-clause-same g c =
    let s = state g.S.Store c.self.inside.conn in
    let t = state g.S.Store c.look_object.new.conn in
    rw (← c.self.view_is) (subst (λ (d : Bool). Looks c.look_object.result (content_at c.self.inside.known s) (content_at c.self.inside.known t) (tells_at c.self.inside.known d s) (tells_at c.self.inside.known d t) s.is_clean t.is_clean (left_at s) (left_at t)) (sym c.if-self.false)
    (looked c.self.inside.known s t (lawful_by g.S.Store c.self.inside.conn g.met.S.Store.shut_if_dirty g.met.S.Store.settled g.met.S.Store.stays) (lawful_by g.S.Store c.look_object.new.conn g.met.S.Store.shut_if_dirty g.met.S.Store.settled g.met.S.Store.stays) c.look_object.ensures.was_open
    (λ k o. (c.look_object.ensures.same o (c.self.invariant.store k (c.look_object.ensures.was_open o)).schema).committed) c.look_object.ensures.clean c.look_object.result c.look_object.ensures.answered))
