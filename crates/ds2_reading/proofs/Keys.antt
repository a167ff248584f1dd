-- Keys of the rows of a statement's tables, and their order as lists of numbers.
use Rattle.std.proofs.Common.{◌≡◌, ℕ, zero, suc, Bool, List, [], ◌∷◌, map, length, refl, sym, ap, ◌∙◌}
use Rattle.std.specs.Prelude.{slice_get, get_or, Option, Some, None}
use Rattle.std.specs.Option.{option_map, option_map_or}
use Rattle.std.proofs.lemmas.List.{length-map}
use Rattle.std.proofs.lemmas.Option.{slice_get-map}
use Rattle.ds2_value.specs.Row.{Row}
use Rattle.ds2_value.specs.Value.{or_null}
use Rattle.ds2_value.specs.declared.value.Value.{Value}
use Rattle.ds2_table.specs.LoadLaws.{AreKeys, HaveTableKeys}
use Rattle.ds2_table.specs.Table.{Contents, table_value}
use Rattle.ds2_reading.specs.declared.reading.ByKey.{ByKey}
use Rattle.ds2_reading.specs.declared.reading.ReadTable.{ReadTable}
use Rattle.ds2_reading.specs.KeyOrder.{part_of_key}
use Rattle.ds2_reading.specs.ReadingKeys.{directions_of, column_of_slot, columns_of_bys, key_in_columns, keys_in_columns, keys_of_table}

-- ---- each key has a value for each BY variable

one_each : (slots : List ℕ) (bys : List ByKey) (row : Row) → length (key_in_columns (columns_of_bys slots bys) row) ≡ length (directions_of bys)
one_each slots bys row =
    length-map (columns_of_bys slots bys) (λ column. or_null (slice_get row column))
    ∙ length-map bys (λ (by : ByKey). column_of_slot slots by.slot)
    ∙ sym (length-map bys (λ (by : ByKey). by.is_descending))

rows_have : (slots : List ℕ) (bys : List ByKey) (rows : List Row) → AreKeys (directions_of bys) (keys_in_columns (columns_of_bys slots bys) rows)
rows_have slots bys [] = tt
rows_have slots bys (row ∷ rows) = (one_each slots bys row, rows_have slots bys rows)

table_has : (bys : List ByKey) (read : ReadTable) (table : Option Contents)
    → AreKeys (directions_of bys) (option_map_or (λ (t : Contents). keys_in_columns (columns_of_bys read.slots bys) t.rows) table [])
table_has bys read None = tt
table_has bys read (Some table) = rows_have read.slots bys table.rows

pub tables_have : (tables : List Contents) (bys : List ByKey) (reads : List ReadTable) → HaveTableKeys (directions_of bys) (map (keys_of_table tables bys) reads)
tables_have tables bys [] = tt
tables_have tables bys (read ∷ reads) = (table_has bys read (slice_get tables read.table), tables_have tables bys reads)

pub one_has : (ds : List Bool) (tables : List (List (List Value))) (t : ℕ) → HaveTableKeys ds tables → AreKeys ds (get_or tables t [])
one_has ds [] t h = tt
one_has ds (keys ∷ tables) zero h = h.0
one_has ds (keys ∷ tables) (suc t) h = one_has ds tables t h.1

-- ---- the parts of a key

-- the value of a row in the column of a BY variable
pub part_is : (columns : List ℕ) (rows : List Row) (row by column : ℕ) → slice_get columns by ≡ Some column
    → part_of_key (get_or (keys_in_columns columns rows) row []) by ≡ table_value rows row column
part_is columns [] row by column e = refl
part_is columns (r ∷ rows) zero by column e =
    ap or_null (slice_get-map (λ c. or_null (slice_get r c)) columns by ∙ ap (option_map (λ c. or_null (slice_get r c))) e)
part_is columns (r ∷ rows) (suc row) by column e = part_is columns rows row by column e

-- a BY variable that is not there has no value
pub part_past : (columns : List ℕ) (rows : List Row) (row by : ℕ) → slice_get columns by ≡ None
    → part_of_key (get_or (keys_in_columns columns rows) row []) by ≡ or_null None
part_past columns [] row by e = refl
part_past columns (r ∷ rows) zero by e =
    ap or_null (slice_get-map (λ c. or_null (slice_get r c)) columns by ∙ ap (option_map (λ c. or_null (slice_get r c))) e)
part_past columns (r ∷ rows) (suc row) by e = part_past columns rows row by e

-- a table that is not there has no rows
pub no_rows : (tables : List (List (List Value))) (t : ℕ) → slice_get tables t ≡ None → 0 ≡ length (get_or tables t [])
no_rows [] t e = refl
no_rows (keys ∷ tables) zero e = let none : Some keys ≡ None = e in cc
no_rows (keys ∷ tables) (suc t) e = no_rows tables t e
