-- A table whose text is read back.
use Rattle.std.specs.Prelude.{IsTrue, ◌≤◌, ◌*◌, length}
use Rattle.std.specs.List.{AllByRecursion}
use Rattle.std.specs.Str.{IsUtf8}
use Rattle.ds2_base.specs.Name.{IsOwnName}
use Rattle.ds2_table.specs.Table.{Contents, rows_fit}
use Rattle.ds2_value.specs.Keeping.{IsHeld}
use Rattle.ds2_value.specs.Schema.{is_schema}
use Rattle.ds2_value.specs.declared.schema.Column.{Column}
use Rattle.ds2_csv.specs.Text.{text}
use Rattle.ds2_csv.specs.declared.limits.TheConstants.{MOST_BYTES, MOST_CELLS, MOST_COLUMNS}

-- a column's name as a `Name` holds it: a name in lower case, in UTF-8
abbrev pub IsNamed : Column → Type 0
IsNamed c = IsOwnName c.name × IsUtf8 c.name

-- a table as a `Table` holds it, within the limits of reading
pub record IsWritable (t : Contents) : Type 0 where
  -- each name is one that can be held
  pub names : AllByRecursion IsNamed t.columns
  -- the names are distinct, and the types in bounds
  pub schema : IsTrue (is_schema t.columns)
  -- each value is one that can be held: an integer of 64 bits, a decimal of 38 digits, a text in UTF-8
  pub values : AllByRecursion (AllByRecursion IsHeld) t.rows
  -- each row has a value of the column's type for each column
  pub rows : IsTrue (rows_fit t.rows t.columns)
  -- there is a column: a header without cells is written like one with an empty cell
  pub some_column : 1 ≤ length t.columns
  -- at most `MOST_COLUMNS` columns
  pub few_columns : length t.columns ≤ MOST_COLUMNS
  -- at most 4,000,000 cells
  pub few_cells : length t.rows * length t.columns ≤ MOST_CELLS
  -- at most `MOST_BYTES` bytes
  pub few_bytes : length (text t) ≤ MOST_BYTES
