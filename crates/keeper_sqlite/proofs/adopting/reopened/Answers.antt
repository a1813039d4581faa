use Rattle.std.proofs.Common.{◌≡◌, false, not, IsTrue, ap, sym, subst, ◌∙◌, rules, arith}
use Rattle.sqlite.specs.Effect.{Database, IsDatabase}
use Rattle.sqlite.specs.Held.{state}
use Rattle.sqlite.specs.Tree.{Trees}
use Rattle.sqlite_catalog.proofs.ReadLemmas.{lists_once}
use Rattle.sqlite_catalog.specs.Listing.{Lists}
use Rattle.sqlite_trees.specs.Objects.{catalog_tree}
use Rattle.sqlite_trees.specs.View.{IsClean}
use Rattle.keeper_sqlite.proofs.Reopening.{fresh_if, open_if, shaped_by}
use Rattle.keeper_sqlite.proofs.adopting.reopened.Goals as goal

pub over-requires : goal.over-requires
over-requires g c = λ clean.
    let answer : c.is_broken.result ≡ false = search rules in
    let whole : (g.S.Store.view c.into_store-store.result).is_broken ≡ false = sym (c.is_broken.ensures clean) ∙ answer in
    fresh_if (g.S.Store.view c.args.connection.store) (g.S.Store.view c.into_store-store.result) (g.met.S.Store.broken_if_shut c.into_store-store.result) c.into_store-store.ensures.undone (c.into_store-store.ensures.numbered clean) whole clean

pub returns-in-Ok-clause-again : goal.returns-in-Ok-clause-again
returns-in-Ok-clause-again g c = λ clean_now.
    let v = g.S.Store.view c.into_store-store.result in
    let clean : IsClean v = (let falls = c.in-Ok.ensures.clean in omega (arith, falls, clean_now)) in
    let answer : c.is_broken.result ≡ false = search rules in
    let whole : v.is_broken ≡ false = sym (c.is_broken.ensures clean) ∙ answer in
    let o : IsTrue v.is_open = open_if v.is_open v.is_broken (g.met.S.Store.broken_if_shut c.into_store-store.result) whole in
    let opens = c.in-Ok.ensures.opens clean_now in
    let sound : IsDatabase (state g.S.Store c.in-Ok.conn).now = (opens.1 opens.0.is_open).0 in
    let trees = c.in-Ok.ensures.trees clean_now in
    record {
      is_open = opens.0.is_open;
      was_open = (c.into_store-store.ensures.undone.kept clean).was_open o;
      settled = opens.0.clean;
      trees = trees ∙ (c.into_store-store.ensures.undone.undone o).0;
      sound = sound;
      shaped = shaped_by v (state g.S.Store c.in-Ok.conn).now (g.met.S.Alter.listed c.into_store-store.result whole) (g.met.S.Store.ordered c.into_store-store.result whole) sound trees;
    }

pub returns-in-Ok-clause-schema : goal.returns-in-Ok-clause-schema
returns-in-Ok-clause-schema g c = λ clean_now idle.
    let it = returns-in-Ok-clause-again g c clean_now in
    let sound : IsDatabase (state g.S.Store c.args.connection).now = (c.schema.ensures.live it.was_open).0 in
    let settled = c.is_autocommit.ensures.settled (c.is_autocommit.ensures.value ∙ ap not idle) it.was_open in
    lists_once _ _ _ it.sound.lists (subst (λ (t : Trees). Lists (t catalog_tree) c.args.connection.schema) (sym (it.trees ∙ sym (ap (λ (d : Database). d.trees) settled))) sound.lists)
