-- Which tables a reading statement fits.
use Rattle.std.specs.Prelude.{ℕ, Bool, true, false, not, ◌&&◌, ◌||◌, nat_eq, nat_le, if◌then◌else◌, List, [], ◌∷◌, length, slice_get, Option, Some, None}
use Rattle.std.specs.List.{list_all}
use Rattle.std.specs.Option.{option_map_or}
use Rattle.ds2_value.specs.Row.{Columns}
use Rattle.ds2_value.specs.declared.ty.Ty.{Ty}
use Rattle.ds2_value.specs.declared.ty.Ty.TheVariants.{BigInt, Decimal as DecimalOf, Char, Varchar}
use Rattle.ds2_table.specs.Table.{Contents}
use Rattle.ds2_reading.specs.declared.reading.ByKey.{ByKey}
use Rattle.ds2_reading.specs.declared.reading.ReadTable.{ReadTable}
use Rattle.ds2_reading.specs.declared.reading.Reading.{Reading}

-- the type of the first column whose slot this is
abbrev pub column_type_at : List ℕ → Columns → ℕ → Option Ty
column_type_at [] columns slot = None
column_type_at (n ∷ ns) [] slot = None
column_type_at (n ∷ ns) (c ∷ cs) slot = if nat_eq n slot then Some c.ty else column_type_at ns cs slot

-- a type of numbers, or one of texts, as is asked for
abbrev pub is_of_number_kind : Ty → (numbers : Bool) → Bool
is_of_number_kind BigInt numbers = numbers
is_of_number_kind (DecimalOf p s) numbers = numbers
is_of_number_kind (Char n) numbers = not numbers
is_of_number_kind (Varchar n) numbers = not numbers

-- a table has a column with the slot of a BY variable, of the kind that is asked for
abbrev pub by_column_is : List Contents → ℕ → Bool → ReadTable → Bool
by_column_is tables slot numbers read =
    option_map_or
    (λ (table : Contents). option_map_or (λ ty. is_of_number_kind ty numbers) (column_type_at read.slots table.columns slot) false)
    (slice_get tables read.table) false

-- each of these tables has
abbrev pub are_by_columns : List Contents → List ReadTable → ℕ → Bool → Bool
are_by_columns tables reads slot numbers = list_all (by_column_is tables slot numbers) reads

-- the columns of a BY variable are all numbers or all texts, one in each table
abbrev pub by_key_fits : List Contents → List ReadTable → ByKey → Bool
by_key_fits tables reads by = are_by_columns tables reads by.slot true || are_by_columns tables reads by.slot false

-- likewise of each BY variable
abbrev pub by_keys_fit : List Contents → List ReadTable → List ByKey → Bool
by_keys_fit tables reads bys = list_all (by_key_fits tables reads) bys

-- a table is there, with a slot for each of its columns
abbrev pub read_table_fits : List Contents → ReadTable → Bool
read_table_fits tables read = option_map_or (λ (table : Contents). nat_eq (length table.columns) (length read.slots)) (slice_get tables read.table) false

-- likewise each table
abbrev pub read_tables_fit : List Contents → List ReadTable → Bool
read_tables_fit tables reads = list_all (read_table_fits tables) reads

-- a statement of at most 16 tables and 16 BY variables fits the tables: they are there, and have the columns of its BY variables
abbrev pub reading_fits_tables : List Contents → Reading → Bool
reading_fits_tables tables reading =
    (nat_le (length reading.tables) 16 && nat_le (length reading.bys) 16)
    && (read_tables_fit tables reading.tables && by_keys_fit tables reading.tables reading.bys)
