-- Law: which tables are read back from their text.
use Rattle.std.specs.Prelude.{◌≤◌, ◌*◌, length}
use Rattle.ds2_table.specs.Table.{Contents}
use Rattle.ds2_csv.specs.Text.{text}
use Rattle.ds2_csv.specs.declared.limits.TheConstants.{MOST_BYTES, MOST_CELLS, MOST_COLUMNS}

-- a table within the limits of reading
pub record IsWithinLimits (t : Contents) : Type 0 where
  -- there is a column: a header without cells is written like one with an empty cell
  pub some_column : 1 ≤ length t.columns
  pub few_columns : length t.columns ≤ MOST_COLUMNS
  pub few_cells : length t.rows * length t.columns ≤ MOST_CELLS
  pub few_bytes : length (text t) ≤ MOST_BYTES
