use Rattle.std.proofs.Common.{inl, Bool, true, Ok, Err, not, refl, sym, ap, subst, ◌∙◌}
use Rattle.keeper_api.specs.Changes.{changed}
use Rattle.keeper_api.specs.Keepers.{Leaves}
use Rattle.keeper_api.specs.declared.keeper_faults.KeeperFault.TheVariants.{Failed}
use Rattle.sqlite.specs.Effect.{Database}
use Rattle.sqlite.specs.Held.{state}
use Rattle.keeper_sqlite.specs.Rows.{repository_in}
use Rattle.keeper_sqlite.specs.States.{IsStore}
use Rattle.keeper_sqlite.specs.Telling.{TellsAfter}
use Rattle.keeper_sqlite.proofs.Keeping.{content_at, tells_at, left_at, lawful_by, made_content, made_leaves, refused_content, doubted_leaves, told_after, failed_after}
use Rattle.keeper_sqlite.proofs.Selecting.{clean_if_open}
use Rattle.keeper_sqlite.proofs.sql_keepers.SqlKeeper.make.Goals as goal

pub returns-then-self-clause-content : goal.returns-then-self-clause-content
returns-then-self-clause-content g c = λ now told. (now, told, inl refl)

pub invariant_of-self : goal.invariant_of-self
invariant_of-self g c = record {
  idle = c.try_make-made.ensures.idle;
  store = λ k o. subst IsStore (sym (c.is_autocommit-2.ensures.settled (c.is_autocommit-2.ensures.value ∙ ap not c.try_make-made.ensures.idle) o)) (c.in-Done.ensures.done refl (clean_if_open _ _ (g.met.S.Store.shut_if_dirty c.try_make-made.new.conn.store) o) (c.self.invariant.store k (c.try_make-made.ensures.was_open o))).0;
}

pub returns-in-Refused-clause-content : goal.returns-in-Refused-clause-content
returns-in-Refused-clause-content g c = rw (← c.self.view_is) (refused_content c.args.change.now c.self.inside.known (state g.S.Store c.self.inside.conn) (state g.S.Store c.try_make-made.new.conn) (lawful_by g.S.Store c.self.inside.conn g.met.S.Store.shut_if_dirty g.met.S.Store.settled g.met.S.Store.stays) (lawful_by g.S.Store c.try_make-made.new.conn g.met.S.Store.shut_if_dirty g.met.S.Store.settled g.met.S.Store.stays) c.try_make-made.ensures.was_open (λ k o. c.in-Refused.ensures.same (λ e. cc) o) (Unit {0}) c.in-Refused.fault)

pub returns-in-InDoubt-clause-content : goal.returns-in-InDoubt-clause-content
returns-in-InDoubt-clause-content g c = rw (← c.self.view_is) (refused_content c.args.change.now c.self.inside.known (state g.S.Store c.self.inside.conn) (state g.S.Store c.try_make-made.new.conn) (lawful_by g.S.Store c.self.inside.conn g.met.S.Store.shut_if_dirty g.met.S.Store.settled g.met.S.Store.stays) (lawful_by g.S.Store c.try_make-made.new.conn g.met.S.Store.shut_if_dirty g.met.S.Store.settled g.met.S.Store.stays) c.try_make-made.ensures.was_open (λ k o. c.in-InDoubt.ensures.same (λ e. cc) o) (Unit {0}) Failed)

pub returns-in-Done-clause-content : goal.returns-in-Done-clause-content
returns-in-Done-clause-content g c = rw (← c.self.view_is) (made_content c.args.change.now c.self.inside.known (state g.S.Store c.self.inside.conn) (state g.S.Store c.try_make-made.new.conn) (lawful_by g.S.Store c.self.inside.conn g.met.S.Store.shut_if_dirty g.met.S.Store.settled g.met.S.Store.stays) (lawful_by g.S.Store c.try_make-made.new.conn g.met.S.Store.shut_if_dirty g.met.S.Store.settled g.met.S.Store.stays) c.try_make-made.ensures.was_open (λ k o now. (c.in-Done.ensures.done refl (clean_if_open _ _ (g.met.S.Store.shut_if_dirty c.try_make-made.new.conn.store) now) (c.self.invariant.store k o)).1 ∙ ap (λ (d : Database). changed c.args.change.now (repository_in d.trees)) (c.is_autocommit.ensures.settled (c.is_autocommit.ensures.value ∙ ap not c.self.invariant.idle) o)) (tt {0}))

pub returns-in-Done-clause-left : goal.returns-in-Done-clause-left
returns-in-Done-clause-left g c = rw (← c.self.view_is) (subst (λ (d : Bool). Leaves c.args.change.now {T = Unit {0}} (Ok (tt {0})) (content_at c.self.inside.known (state g.S.Store c.self.inside.conn)) (tells_at c.self.inside.known d (state g.S.Store c.self.inside.conn)) (tells_at c.self.inside.known d (state g.S.Store c.try_make-made.new.conn)) (left_at (state g.S.Store c.self.inside.conn)) (left_at (state g.S.Store c.try_make-made.new.conn))) (sym c.if-self.false) (made_leaves c.args.change.now c.self.inside.known (state g.S.Store c.self.inside.conn) (state g.S.Store c.try_make-made.new.conn) (lawful_by g.S.Store c.self.inside.conn g.met.S.Store.shut_if_dirty g.met.S.Store.settled g.met.S.Store.stays) (lawful_by g.S.Store c.try_make-made.new.conn g.met.S.Store.shut_if_dirty g.met.S.Store.settled g.met.S.Store.stays) c.try_make-made.ensures.was_open (λ k o now. (c.in-Done.ensures.done refl (clean_if_open _ _ (g.met.S.Store.shut_if_dirty c.try_make-made.new.conn.store) now) (c.self.invariant.store k o)).1 ∙ ap (λ (d : Database). changed c.args.change.now (repository_in d.trees)) (c.is_autocommit.ensures.settled (c.is_autocommit.ensures.value ∙ ap not c.self.invariant.idle) o)) tt))

pub returns-in-InDoubt-clause-left : goal.returns-in-InDoubt-clause-left
returns-in-InDoubt-clause-left g c = rw (← c.self.view_is) (subst (λ (d : Bool). Leaves c.args.change.now {T = Unit {0}} (Err Failed) (content_at c.self.inside.known (state g.S.Store c.self.inside.conn)) (tells_at c.self.inside.known d (state g.S.Store c.self.inside.conn)) (tells_at c.self.inside.known true (state g.S.Store c.try_make-made.new.conn)) (left_at (state g.S.Store c.self.inside.conn)) (left_at (state g.S.Store c.try_make-made.new.conn))) (sym c.if-self.false)
    (doubted_leaves c.args.change.now c.self.inside.known (state g.S.Store c.self.inside.conn) (state g.S.Store c.try_make-made.new.conn) (lawful_by g.S.Store c.self.inside.conn g.met.S.Store.shut_if_dirty g.met.S.Store.settled g.met.S.Store.stays) (lawful_by g.S.Store c.try_make-made.new.conn g.met.S.Store.shut_if_dirty g.met.S.Store.settled g.met.S.Store.stays) c.try_make-made.ensures.was_open (λ k o. c.in-InDoubt.ensures.same (λ e. cc) o) (λ k clean. c.in-InDoubt.ensures.in_doubt refl clean) (λ o. (c.is_autocommit.ensures.settled (c.is_autocommit.ensures.value ∙ ap not c.self.invariant.idle) o)) c.self.invariant.store c.try_make-made.ensures.survives _))

pub returns-in-Done-clause-on : goal.returns-in-Done-clause-on
returns-in-Done-clause-on g c =
    let s = state g.S.Store c.self.inside.conn in
    let t = state g.S.Store c.try_make-made.new.conn in
    rw (← c.self.view_is) (subst (λ (d : Bool). TellsAfter {T = Unit {0}} (Ok (tt {0})) (content_at c.self.inside.known s) (content_at c.self.inside.known t) (tells_at c.self.inside.known d s) (tells_at c.self.inside.known d t) s.is_clean t.is_clean) (sym c.if-self.false)
    (told_after c.self.inside.known s t c.try_make-made.ensures.survives.clean {T = Unit {0}} (Ok (tt {0})) (λ clean is. c.in-Done.ensures.answered clean tt)))

pub returns-in-Refused-clause-on : goal.returns-in-Refused-clause-on
returns-in-Refused-clause-on g c =
    let s = state g.S.Store c.self.inside.conn in
    let t = state g.S.Store c.try_make-made.new.conn in
    rw (← c.self.view_is) (subst (λ (d : Bool). TellsAfter {T = Unit {0}} (Err c.in-Refused.fault) (content_at c.self.inside.known s) (content_at c.self.inside.known t) (tells_at c.self.inside.known d s) (tells_at c.self.inside.known d t) s.is_clean t.is_clean) (sym c.if-self.false)
    (told_after c.self.inside.known s t c.try_make-made.ensures.survives.clean {T = Unit {0}} (Err c.in-Refused.fault) (λ clean is. c.in-Refused.ensures.answered clean is)))

pub returns-in-InDoubt-clause-on : goal.returns-in-InDoubt-clause-on
returns-in-InDoubt-clause-on g c =
    let s = state g.S.Store c.self.inside.conn in
    let t = state g.S.Store c.try_make-made.new.conn in
    rw (← c.self.view_is) (failed_after {T = Unit {0}} (content_at c.self.inside.known s) (content_at c.self.inside.known t) (tells_at c.self.inside.known c.self.inside.in_doubt s) (tells_at c.self.inside.known true t) s t c.try_make-made.ensures.survives.clean)
