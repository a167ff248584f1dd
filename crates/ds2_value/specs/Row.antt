-- What a list of values, and a list of columns, is.
use Rattle.std.specs.Prelude.{List}
use Rattle.ds2_value.specs.declared.schema.Column.{Column}
use Rattle.ds2_value.specs.declared.value.Value.{Value}

-- the values of a row, one for each column
abbrev pub Row : Type 0
Row = List Value

-- the columns of a table, from the left
abbrev pub Columns : Type 0
Columns = List Column
