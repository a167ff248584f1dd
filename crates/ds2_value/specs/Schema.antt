-- Schemas: columns with distinct names and types in bounds, and the rows that fit them.
use Rattle.std.specs.Prelude.{Bool, true, false, ◌&&◌, not, nat_eq, [], ◌∷◌, if◌then◌else◌, Option, Some, None, IsTrue}
use Rattle.std.specs.Cmp.Lexicographic.{pointwise}
use Rattle.std.specs.List.{list_all, list_any, AllByRecursion}
use Rattle.ds2_base.specs.Bytes.{Bytes}
use Rattle.ds2_base.specs.Name.{IsNameBytes}
use Rattle.ds2_value.specs.Row.{Row, Columns}
use Rattle.ds2_value.specs.Types.{in_bounds, fits}
use Rattle.ds2_value.specs.declared.schema.Column.{Column}

-- a column of this name is there
abbrev pub has_column : Bytes → Columns → Bool
has_column name columns = list_any (λ c. pointwise nat_eq c.name name) columns

-- no two columns have one name
abbrev pub distinct_names : Columns → Bool
distinct_names [] = true
distinct_names (c ∷ cs) = not (has_column c.name cs) && distinct_names cs

-- every type is in bounds
abbrev pub types_in_bounds : Columns → Bool
types_in_bounds columns = list_all (λ c. in_bounds c.ty) columns

-- the columns of a schema
abbrev pub is_schema : Columns → Bool
is_schema columns = distinct_names columns && types_in_bounds columns

-- the column's name is one that a `Name` holds
abbrev pub IsNamedColumn : Column → Type 0
IsNamedColumn c = IsNameBytes c.name

-- what holds of the columns that a `Schema` has
pub record IsSchema (columns : Columns) : Type 0 where
  -- the names are distinct, and the types in bounds
  pub rules : IsTrue (is_schema columns)
  -- each name is a name
  pub names : AllByRecursion IsNamedColumn columns

-- the schema of these columns, or None where two have one name
abbrev pub schema_of : Columns → Option Columns
schema_of columns = if distinct_names columns then Some columns else None

-- a row has a value for each column, and each is of its column's type
abbrev pub row_fits : Row → Columns → Bool
row_fits [] [] = true
row_fits (v ∷ vs) (c ∷ cs) = fits v c.ty && row_fits vs cs
row_fits _ _ = false
