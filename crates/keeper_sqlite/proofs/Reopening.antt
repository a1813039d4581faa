-- A store that was given back and is not broken, and a connection made over it.
use Rattle.std.proofs.Common.{◌≡◌, inl, inr, codes, Bool, true, false, IsTrue, refl, sym, ap, subst, ◌∙◌}
use Rattle.sqlite.specs.Effect.{Database, IsDatabase}
use Rattle.sqlite.specs.Held.{Held, state}
use Rattle.sqlite.specs.Schema.{Schema}
use Rattle.sqlite.specs.Store.{Ghosts}
use Rattle.sqlite.specs.Steps.{IsFresh}
use Rattle.sqlite.specs.Tree.{Trees}
use Rattle.sqlite_catalog.specs.Listing.{Lists}
use Rattle.sqlite_catalog.proofs.LayoutLemmas.{objects_rise}
use Rattle.sqlite_catalog.proofs.ReadLemmas.{shaped_of}
use Rattle.sqlite_rules.specs.Lists.{Has}
use Rattle.sqlite_rules.proofs.ListLemmas.{all_has}
use Rattle.sqlite_trees.specs.Objects.{IsListed, catalog_tree}
use Rattle.sqlite_trees.specs.View.{View, IsClean, IsOrdered, IsRolledBack, IsShaped}
use Rattle.sqlite_trees.specs.declared.store.Shape.{Shape}
use Rattle.sqlite_trees.specs.declared.store.Shape.TheVariants as shape
use Rattle.keeper_sqlite.specs.Adopting.{AreShapedTables}
use Rattle.keeper_sqlite.specs.Schemas.{objects_columns, refs_columns, table_at}
use Rattle.keeper_sqlite.specs.States.{IsStore}
use Rattle.keeper_sqlite.specs.Tables.{store_schema}

-- what is not broken is open
pub open_if : (is_open is_broken : Bool) → (is_open ≡ false → IsTrue is_broken) → is_broken ≡ false → IsTrue is_open
open_if true is_broken shut whole = refl
open_if false is_broken shut whole = let e : true ≡ false = sym (shut refl) ∙ whole in cc

-- what was rolled back and is not broken is as just opened
pub fresh_if : (old new : View) → (new.is_open ≡ false → IsTrue new.is_broken) → IsRolledBack old new → IsTrue new.is_numbered → new.is_broken ≡ false → IsClean new → IsFresh new
fresh_if old new shut undone numbered whole clean =
    let o = open_if new.is_open new.is_broken shut whole in
    record {
      sound = whole;
      numbered = numbered;
      clean = (undone.undone o).0 ∙ sym ((undone.kept clean).committed o);
      unmarked = (undone.kept clean).marks o;
    }

-- the rowids of each table rise, by the store that the trees are of
pub shaped_by : (v : View) (db : Database) → IsListed (v.trees catalog_tree) v.shape v.reals → IsOrdered v.shape v.trees → IsDatabase db → db.trees ≡ v.trees → AreShapedTables db
shaped_by v db listed ordered sound same table has =
    let rising = objects_rise v listed ordered in
    let shaped = shaped_of v db.schema listed rising (subst (λ (t : Trees). Lists (t catalog_tree) db.schema) same sound.lists) in
    let of_table = (all_has _ db.schema.tables table shaped.tables has).0 in
    subst (λ (t : Trees). IsShaped shape.Table (t table.tree)) (sym same) (subst (λ (s : Shape). IsShaped s (v.trees table.tree)) of_table (ordered table.tree))

-- a database of the schema, with its tables in order, is a store
pub store_by : (db : Database) → db.schema ≡ store_schema → IsDatabase db → AreShapedTables db → IsStore db
store_by db is sound shaped = record {
  schema = is;
  sound = sound;
  objects = shaped (table_at (codes "objects") objects_columns 0) (subst (λ (s : Schema). Has s.tables (table_at (codes "objects") objects_columns 0)) (sym is) (inl refl));
  refs = shaped (table_at (codes "refs") refs_columns 2) (subst (λ (s : Schema). Has s.tables (table_at (codes "refs") refs_columns 2)) (sym is) (inr (inl refl)));
}

pub same_schema : {S : Type 0} (h k : Held S) (s : Schema) → h ≡ k → k.schema ≡ s → h.schema ≡ s
same_schema {S} h k s is has = ap (λ (x : Held S). x.schema) is ∙ has

pub same_committed : {S : Type 0} (g : Ghosts S) (h k : Held S) → h ≡ k → (state g h).committed ≡ (state g k).committed
same_committed {S} g h k is = ap (λ (x : Held S). (state g x).committed) is
