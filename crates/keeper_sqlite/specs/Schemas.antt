-- The parts of the schema with number 1.
use Rattle.std.specs.Prelude.{◌≡◌, ◌+◌, ℕ, true, false, List, [], ◌∷◌, None}
use Rattle.sqlite.specs.Table.{Table}
use Rattle.sqlite_schema.specs.declared.schema.Column.{Column}
use Rattle.sqlite_schema.specs.declared.schema.Index.{Index}
use Rattle.sqlite_value.specs.Keys.{plain}
use Rattle.keeper_sqlite.specs.Tables.{facts, objects, refs, table_of}

abbrev pub objects_columns : List Column
objects_columns = objects.columns

abbrev pub refs_columns : List Column
refs_columns = refs.columns

abbrev pub facts_columns : List Column
facts_columns = facts.columns

-- a table whose first column is its key, in this tree
abbrev pub table_at : List ℕ → List Column → ℕ → Table
table_at name columns tree = record (table_of name columns) { tree = tree }

-- it has no rule beside its columns and its key
pub record IsSimple (table : Table) : Type 0 where
  pub key : table.key ≡ None
  pub checks : table.checks ≡ []
  pub references : table.references ≡ []
  pub computed : table.computed ≡ []
  pub stamps : table.stamps ≡ record { places = []; terms = []; formats = [] }
  pub counted : table.is_counted ≡ false

-- its first column is its key
pub record IsKeyed (table : Table) : Type 0 where
  pub primary : table.primary ≡ 1 ∷ []
  pub uniques : table.uniques ≡ (1 ∷ []) ∷ []
  pub orders : table.orders ≡ plain ∷ []

-- the index of a table's key, which is the tree after the table's
abbrev pub automatic_of : List ℕ → ℕ → Index
automatic_of name table =
    record { name = name; tree = table + 1; table = table; columns = 1 ∷ []; order = plain; is_unique = true }
