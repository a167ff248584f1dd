-- The keys of the rows that a reading statement reads: for each row of each table its values of the BY variables.
use Rattle.std.specs.Prelude.{ℕ, Bool, List, [], map, slice_get, ◌==◌}
use Rattle.std.specs.List.{position_or_len}
use Rattle.std.specs.Option.{option_map_or}
use Rattle.ds2_value.specs.Row.{Row}
use Rattle.ds2_value.specs.Value.{or_null}
use Rattle.ds2_value.specs.declared.value.Value.{Value}
use Rattle.ds2_table.specs.Table.{Contents}
use Rattle.ds2_reading.specs.declared.reading.ByKey.{ByKey}
use Rattle.ds2_reading.specs.declared.reading.ReadTable.{ReadTable}
use Rattle.ds2_reading.specs.declared.reading.Reading.{Reading}

-- for each BY variable whether it is descending
abbrev pub directions_of : List ByKey → List Bool
directions_of bys = map (λ (by : ByKey). by.is_descending) bys

-- the number of the first column of a slot; where no column has it, the number of columns
abbrev pub column_of_slot : List ℕ → ℕ → ℕ
column_of_slot slots slot = position_or_len (λ n. n == slot) slots

-- the columns of the BY variables in a table whose columns have these slots
abbrev pub columns_of_bys : List ℕ → List ByKey → List ℕ
columns_of_bys slots bys = map (λ (by : ByKey). column_of_slot slots by.slot) bys

-- the values of a row in these columns, null where it has none
abbrev pub key_in_columns : List ℕ → Row → List Value
key_in_columns columns row = map (λ column. or_null (slice_get row column)) columns

-- the key of each of these rows
abbrev pub keys_in_columns : List ℕ → List Row → List (List Value)
keys_in_columns columns rows = map (key_in_columns columns) rows

-- the keys of the rows of a table that is read
abbrev pub keys_of_table : List Contents → List ByKey → ReadTable → List (List Value)
keys_of_table tables bys read =
    option_map_or (λ (table : Contents). keys_in_columns (columns_of_bys read.slots bys) table.rows) (slice_get tables read.table) []

-- the keys of the rows of each table of a statement
abbrev pub keys_of_reading : List Contents → Reading → List (List (List Value))
keys_of_reading tables reading = map (keys_of_table tables reading.bys) reading.tables
