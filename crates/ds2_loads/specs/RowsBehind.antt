-- The rows of a statement's tables one after the other.
use Rattle.std.specs.Prelude.{◌≡◌, ℕ, ◌+◌, ◌<◌, List, [], ◌∷◌, ◌++◌, length, map, drop}
use Rattle.ds2_value.specs.declared.value.Value.{Value}
use Rattle.ds2_table.specs.Loads.{InputRow, numbered_rows, input_rows, set_load}
use Rattle.ds2_table.specs.Table.{Contents}
use Rattle.ds2_reading.specs.LoadMeaning.{load_meaning}
use Rattle.ds2_reading.specs.declared.load.Load.{Load as LoadInCode}
use Rattle.ds2_reading.specs.declared.reading.ReadTable.{ReadTable}
use Rattle.ds2_reading.specs.ReadingKeys.{keys_of_table}
use Rattle.ds2_loads.specs.declared.row_place.RowPlace.{RowPlace}

-- the rows that are left: of the first of these tables, which has this number, those behind so many, and all rows of the further ones
abbrev pub rows_behind : List Contents → (number given : ℕ) → List ReadTable → List InputRow
rows_behind tables number given [] = []
rows_behind tables number given (read ∷ reads) =
    drop given (numbered_rows number 0 (keys_of_table tables [] read)) ++ input_rows (number + 1) (map (keys_of_table tables []) reads)

-- the row at this place, whatever its key, is the first of these rows, and those behind it are the others
pub record IsRowNext (tables : List Contents) (reads : List ReadTable) (rows : List InputRow) (place : RowPlace) : Type 0 where
  pub key : List Value
  pub left : rows ≡ record { table = place.table; number = place.row; key = key } ∷ rows_behind tables place.table (place.row + 1) (drop place.table reads)
  pub table : place.table < length reads

-- the first of the rows of these tables at a place or behind it, as a load; behind it are the rows at the other place or behind that one
pub record IsRowGiven (tables : List Contents) (reads : List ReadTable) (before after : RowPlace) (load : LoadInCode) : Type 0 where
  pub row : InputRow
  pub left : rows_behind tables before.table before.row (drop before.table reads) ≡ row ∷ rows_behind tables after.table after.row (drop after.table reads)
  pub means : load_meaning (length reads) 0 load ≡ (set_load (length reads) row).load
