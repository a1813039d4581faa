-- What a connection must tell to be taken as a store, and one that was taken apart and made anew.
use Rattle.std.specs.Prelude.{◌≡◌, ◌≢◌, ◌⊎◌, ℤ, pos, Bool, true, false, List, codes, Result, Ok, Err, IsTrue, ⊤}
use Rattle.std.specs.Ordering.{is_eq}
use Rattle.sqlite.specs.Effect.{Database, IsDatabase}
use Rattle.sqlite.specs.Held.{Held, state}
use Rattle.sqlite.specs.Order.{Row, column, value_cmp}
use Rattle.sqlite.specs.State.{HasCleanDisk, State}
use Rattle.sqlite.specs.Store.{Ghosts}
use Rattle.sqlite.specs.Table.{Table}
use Rattle.sqlite.specs.declared.types.Value.TheVariants.{Int, Text}
use Rattle.sqlite_rules.specs.Lists.{Has}
use Rattle.sqlite_trees.specs.View.{IsShaped}
use Rattle.sqlite_trees.specs.declared.store.Shape.TheVariants as shape
use Rattle.keeper_sqlite.specs.declared.sql_faults.SqlFault.{SqlFault}
use Rattle.keeper_sqlite.specs.declared.sql_faults.SqlFault.TheVariants.{BadSchema, Failed, Memory}

-- the row of `facts` that has the number of the schema
abbrev pub is_schema_row : Row → Bool
is_schema_row row = is_eq (value_cmp (column row 1) (Text (codes "schema")))

-- the number that the rows of `facts` tell, which is 0 where there is no such row
abbrev pub TellsNumber : List Row → ℤ → Type 0
TellsNumber rows number =
    ((r : Row) × Has rows r × (is_schema_row r ≡ true) × (column r 2 ≡ Int number))
    ⊎ (((r : Row) → Has rows r → is_schema_row r ≡ false) × (number ≡ pos 0))

-- which number the rows of `facts` tell where a database is taken, and where it is refused for its number
abbrev pub HasNumber : {T : Type 0} → Result T SqlFault → List Row → Type 0
HasNumber (Ok _) rows = TellsNumber rows (pos 1)
HasNumber (Err (BadSchema found)) rows = (found ≢ pos 1) × TellsNumber rows found
HasNumber (Err Failed) rows = ⊤
HasNumber (Err Memory) rows = ⊤

-- it is not refused for its number
abbrev pub IsUnnumbered : SqlFault → Type 0
IsUnnumbered fault = (found : ℤ) → fault ≢ BadSchema found

-- the disk gives back what was written to it whatever is called, as memory does
abbrev pub IsReliable : {S : Type 0} → Ghosts S → Type 0
IsReliable {S} g = (held : Held S) → HasCleanDisk (state g held)

-- in each table that the schema lists the rowids rise
abbrev pub AreShapedTables : Database → Type 0
AreShapedTables db = (table : Table) → Has db.schema.tables table → IsShaped shape.Table (db.trees table.tree)

-- it is open, and shows the trees of the last commit, each table's in order
pub record IsReopened (old new : State) : Type 0 where
  pub is_open : IsTrue new.is_open
  pub was_open : IsTrue old.is_open
  pub settled : new.now ≡ new.committed
  pub trees : new.now.trees ≡ old.committed.trees
  pub sound : IsDatabase new.now
  pub shaped : AreShapedTables new.now
