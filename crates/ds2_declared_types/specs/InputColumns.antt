-- The columns of the tables of a reading statement, as they are found by their names.
use Rattle.std.specs.Prelude.{◌≡◌, ℕ, nat_eq, bytes_eq, if◌then◌else◌, List, [], ◌∷◌, ◌++◌, map, Option, Some, None}
use Rattle.std.specs.Cmp.Lexicographic.{pointwise}
use Rattle.std.specs.HashMap.{HashMap, get}
use Rattle.ds2_base.specs.declared.place.Place.{Place}
use Rattle.ds2_tree.specs.declared.readings.Input.{Input}
use Rattle.ds2_value.specs.Row.{Columns}
use Rattle.ds2_value.specs.declared.schema.Column.{Column}
use Rattle.ds2_value.specs.declared.ty.Ty.{Ty}
use Rattle.ds2_names.specs.SourceUnit.{TableColumns, spelled_name}
use Rattle.ds2_elaboration.specs.SourceTypes.{ColumnTyping, type_of_column, with_table, clash_at_table}
use Rattle.ds2_declared_types.specs.declared.input_types.InputTypes.{InputTypes}

-- the type of a column, where it has this name
abbrev pub type_if_named : List ℕ → Column → Option Ty
type_if_named name c = if bytes_eq c.name name then Some c.ty else None

-- types of columns by their names
abbrev pub TypesByName : Type 0
TypesByName = HashMap (List ℕ) Ty (Unit {0})

-- they tell of each name the type of the first of these columns that has it
abbrev pub HasTypes : TypesByName → Columns → Type 0
HasTypes types columns = (name : List ℕ) → get (pointwise nat_eq) types name ≡ type_of_column name columns

-- a column in a table of a reading statement: where the table is named, and the type of the column, where the table has it
pub record ColumnInTable : Type 0 where
  pub place : Place
  pub ty : Option Ty

-- the column of a name in a table that is named here
abbrev pub column_at : TableColumns → List ℕ → Input → ColumnInTable
column_at tables name i = record { place = i.table.place; ty = type_of_column name (tables (spelled_name i.table)) }

-- the same, as it is found
abbrev pub column_found : List ℕ → InputTypes → ColumnInTable
column_found name t = record { place = t.place; ty = get (pointwise nat_eq) t.types name }

-- of each name is found what the tables of a reading statement have of it
abbrev pub FindColumns : TableColumns → List Input → List InputTypes → Type 0
FindColumns tables inputs found = (name : List ℕ) → map (column_found name) found ≡ map (column_at tables name) inputs

-- the type of a column over these further tables, joined from the left
abbrev pub joined_columns : Option Ty → ColumnTyping → List ColumnInTable → ColumnTyping
joined_columns declared typing [] = typing
joined_columns declared typing (c ∷ columns) = joined_columns declared (with_table declared typing c.ty) columns

-- the first of these further tables at which its join fails, or the join with its declared variable
abbrev pub clash_of_columns : Option Ty → ColumnTyping → List ColumnInTable → List Place
clash_of_columns declared typing [] = []
clash_of_columns declared typing (c ∷ columns) =
    let behind = with_table declared typing c.ty in
    clash_at_table c.place typing behind ++ clash_of_columns declared behind columns
