-- Sets of names, and the columns of tables that are not known yet.
use Rattle.std.specs.Prelude.{◌≡◌, ℕ, Bool, nat_eq, if◌then◌else◌, List, [], ◌∷◌, ◌++◌, map}
use Rattle.std.specs.Cmp.Lexicographic.{pointwise}
use Rattle.std.specs.HashSet.{HashSet, contains}
use Rattle.ds2_base.specs.declared.place.Place.{Place}
use Rattle.ds2_tree.specs.declared.readings.Input as source_input
use Rattle.ds2_value.specs.Row.{Columns}
use Rattle.ds2_value.specs.declared.schema.Column.{Column}
use Rattle.ds2_meaning.specs.ProgramTree.{is_listed}
use Rattle.ds2_names.specs.SourceUnit.{TableColumns, PlacedName, names_alone, new_columns_of, new_columns}

-- a set has the names of a list, and no others
abbrev pub HasNames : {S : Type 0} → HashSet (List ℕ) S → List (List ℕ) → Type 0
HasNames set names = (name : List ℕ) → contains (pointwise nat_eq) set name ≡ is_listed names name

-- the names of columns
abbrev pub column_names : Columns → List (List ℕ)
column_names columns = map (λ (c : Column). c.name) columns

-- the columns of a table that are not among known names were added, and are known now
pub record AddsColumns {S : Type 0} (seen : List (List ℕ)) (place : Place) (columns : Columns) (before after : List PlacedName) (set : HashSet (List ℕ) S) : Type 0 where
  pub names : after ≡ before ++ new_columns_of seen place columns
  pub known : HasNames set (names_alone (new_columns_of seen place columns) ++ seen)

-- likewise the columns of tables
abbrev pub AddsAllColumns : TableColumns → (known : List (List ℕ)) → List source_input.Input → (before after : List PlacedName) → Type 0
AddsAllColumns tables known inputs before after = after ≡ before ++ new_columns tables known inputs

-- a column of a thread program at a place, unless a test knows its name
abbrev pub stage_column_by : (List ℕ → Bool) → Place → List ℕ → List PlacedName
stage_column_by known place name = if known name then [] else record { name = name; place = place } ∷ []

-- the columns of a thread program that a test does not know
abbrev pub stage_columns_by : (List ℕ → Bool) → Place → List (List ℕ) → List PlacedName
stage_columns_by known place [] = []
stage_columns_by known place (name ∷ columns) = stage_column_by known place name ++ stage_columns_by known place columns
