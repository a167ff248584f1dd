-- Places in the BY order of all rows.
use Rattle.std.specs.Prelude.{◌≡◌, ℕ, zero, suc, List, length, map, slice_get, get_or, Option, Some, None, Bool}
use Rattle.ds2_value.specs.declared.value.Value.{Value}
use Rattle.ds2_table.specs.Loads.{InputRow, input_rows, in_by_order}
use Rattle.ds2_reading.specs.KeyOrder.{InputKeys, parts_in_common}

-- the item before so many of a list
abbrev pub item_before : {A : Type 0} → List A → ℕ → Option A
item_before xs zero = None
item_before xs (suc n) = slice_get xs n

-- the rows of all tables in BY order
abbrev pub all_rows : List Bool → List (List (List Value)) → List InputRow
all_rows descending tables = in_by_order descending (input_rows 0 tables)

-- in how many of so many BY variables, from the first one on, a row is equal to one before it; none where there is no such row
abbrev pub common_with : ℕ → Option InputRow → Option InputRow → ℕ
common_with bys None row = 0
common_with bys (Some before) None = 0
common_with bys (Some before) (Some row) = parts_in_common bys before.key row.key

-- likewise of the row at a place and the one before
abbrev pub common_before : InputKeys → ℕ → ℕ
common_before input place =
    let rows = all_rows input.descending input.tables in common_with (length input.descending) (item_before rows place) (slice_get rows place)

-- these are the numbers of all rows, table after table, in BY order
abbrev pub AreRowNumbers : InputKeys → List ℕ → Type 0
AreRowNumbers input numbers = map (slice_get (input_rows 0 input.tables)) numbers ≡ map Some (all_rows input.descending input.tables)

-- and this is for each in how many BY variables it is equal to the row before
abbrev pub AreCommons : InputKeys → List ℕ → Type 0
AreCommons input commons = (place : ℕ) → get_or commons place 0 ≡ common_before input place
