-- Rows of several tables by their keys: how they stand, and how many BY variables they have in common from the first one on.
use Rattle.std.specs.Prelude.{ℕ, zero, suc, ◌+◌, ◌<◌, length, Bool, if◌then◌else◌, List, [], ◌∷◌, drop, slice_get, get_or}
use Rattle.std.specs.Ordering.{ordering_then}
use Rattle.std.specs.declared.cmp.Ordering.{Ordering}
use Rattle.std.specs.declared.cmp.Ordering.TheVariants.{Equal}
use Rattle.ds2_value.specs.Order.{value_eq}
use Rattle.ds2_value.specs.Value.{or_null}
use Rattle.ds2_value.specs.declared.value.Value.{Value}
use Rattle.ds2_table.specs.Loads.{InputRow, value_order, input_rows, keys_of_rows}
use Rattle.ds2_reading.specs.declared.table_row.TableRow.{TableRow}

-- the tables of a statement by the keys of their rows, and for each BY variable whether it is descending
pub record InputKeys : Type 0 where
  pub descending : List Bool
  pub tables : List (List (List Value))

-- the row of this number in a table with these keys
abbrev pub numbered_row : ℕ → List (List Value) → ℕ → InputRow
numbered_row table keys number = record { table = table; number = number; key = get_or keys number [] }

-- the row of a statement's tables that is meant
abbrev pub row_in : List (List (List Value)) → TableRow → InputRow
row_in tables row = numbered_row row.table (get_or tables row.table []) row.row

-- its key
abbrev pub key_of_row : List (List (List Value)) → TableRow → List Value
key_of_row tables row = get_or (get_or tables row.table []) row.row []

-- the part of a key for a BY variable; one that it lacks counts as null
abbrev pub part_of_key : List Value → ℕ → Value
part_of_key key by = or_null (slice_get key by)

-- how two keys stand, where a part that is lacking counts as null: by the first BY variable in which they differ
abbrev pub parts_order : List Bool → List Value → List Value → Ordering
parts_order [] a b = Equal
parts_order (d ∷ ds) a b = ordering_then (value_order d (part_of_key a 0) (part_of_key b 0)) (parts_order ds (drop 1 a) (drop 1 b))

-- in how many of so many BY variables two keys are equal, from the first one on
abbrev pub parts_in_common : ℕ → List Value → List Value → ℕ
parts_in_common zero a b = 0
parts_in_common (suc bys) a b =
    if value_eq (part_of_key a 0) (part_of_key b 0) then parts_in_common bys (drop 1 a) (drop 1 b) + 1 else 0

-- a row is there
pub record IsThere (tables : List (List (List Value))) (row : TableRow) : Type 0 where
  pub known : row.table < length tables
  pub within : row.row < length (get_or tables row.table [])

-- the key of the row of this number, where all rows are counted from 0, table after table
abbrev pub key_of_number : InputKeys → ℕ → List Value
key_of_number input number = get_or (keys_of_rows (input_rows 0 input.tables)) number []
