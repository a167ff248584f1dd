-- Columns: values of one type.
use Rattle.std.specs.Prelude.{ℕ, Bool, List, [], ◌∷◌, ◌++◌, map, take, slice_get, IsTrue}
use Rattle.std.specs.List.{list_all}
use Rattle.ds2_value.specs.Types.{in_bounds, fits}
use Rattle.ds2_value.specs.Value.{or_null}
use Rattle.ds2_value.specs.declared.ty.Ty.{Ty}
use Rattle.ds2_value.specs.declared.value.Value.{Value}

-- a column: the type of its values, and a value for each row
pub record ColumnContents : Type 0 where
  pub ty : Ty
  pub values : List Value

-- all values are of a type
abbrev pub all_fit : Ty → List Value → Bool
all_fit ty values = list_all (λ value. fits value ty) values

-- what holds of every column that is held: its type is in bounds, and its values are of the type
pub record IsColumn (column : ColumnContents) : Type 0 where
  pub bounds : IsTrue (in_bounds column.ty)
  pub fit : IsTrue (all_fit column.ty column.values)

-- the column without values
abbrev pub empty_column : Ty → ColumnContents
empty_column ty = record { ty = ty; values = [] }

-- the column with one more value at its end
abbrev pub with_value : ColumnContents → Value → ColumnContents
with_value column value = record { ty = column.ty; values = column.values ++ value ∷ [] }

-- the column with its first values alone
abbrev pub first_values : ℕ → ColumnContents → ColumnContents
first_values count column = record { ty = column.ty; values = take count column.values }

-- the value in a row; null where there is no such row
abbrev pub value_in_row : List Value → ℕ → Value
value_in_row values row = or_null (slice_get values row)

-- a column with more values at its end: those in these rows of others
abbrev pub with_rows : ColumnContents → List Value → List ℕ → ColumnContents
with_rows column values order = record { ty = column.ty; values = column.values ++ map (value_in_row values) order }

-- the values in these rows
abbrev pub gathered_column : ColumnContents → List ℕ → ColumnContents
gathered_column column order = record { ty = column.ty; values = map (value_in_row column.values) order }
