-- Variables and columns, one by one.
use Rattle.std.specs.Prelude.{ℕ, nat_eq, Bool, true, false, List, [], ◌∷◌, ◌++◌, map, Option, Some, None}
use Rattle.std.specs.Cmp.Lexicographic.{pointwise}
use Rattle.std.specs.HashMap.{get}
use Rattle.ds2_base.specs.declared.place.Place.{Place}
use Rattle.ds2_token.specs.declared.token.Token.{Token}
use Rattle.ds2_tree.specs.Globals.{GlobalItem, Declared}
use Rattle.ds2_tree.specs.declared.globals.Declaration.TheVariants as declaration
use Rattle.ds2_tree.specs.declared.globals.Parameter as source_parameter
use Rattle.ds2_value.specs.declared.ty.Ty.{Ty}
use Rattle.ds2_meaning.specs.declared.globals.Variable.{Variable}
use Rattle.ds2_names.specs.SourceUnit.{PlacedName, spelled_name}
use Rattle.ds2_elaboration.specs.SourceTypes.{spelled_type, ColumnTyping, Absent, Joined, Clashed, with_table, joined_type, clash_at_table}
use Rattle.ds2_declared_types.specs.InputColumns.{TypesByName, column_found, joined_columns, clash_of_columns}
use Rattle.ds2_declared_types.specs.declared.input_types.InputTypes.{InputTypes}
use Rattle.ds2_declared_types.specs.declared.joins.ColumnTyping as code_typing
use Rattle.ds2_declared_types.specs.declared.joins.ColumnTyping.TheVariants as code

-- the variable that a token names, of a type
abbrev pub variable_named : Ty → Token → Variable
variable_named ty token = record { name = spelled_name token; ty = ty }

-- the variables that a part of a unit declares
abbrev pub variables_declared_in : GlobalItem → List Variable
variables_declared_in (Declared (declaration.Variables v)) = map (variable_named (spelled_type v.ty)) v.names
variables_declared_in _ = []

-- a parameter as a variable
abbrev pub variable_of_parameter : source_parameter.Parameter → Variable
variable_of_parameter p = variable_named (spelled_type p.ty) p.name

-- what is known of the type of a column, as the code holds it
abbrev pub column_typing_of : code_typing.ColumnTyping → ColumnTyping
column_typing_of code.Absent = Absent
column_typing_of (code.Joined ty) = Joined ty
column_typing_of code.Clashed = Clashed

-- a rule is broken
abbrev pub is_clash : ColumnTyping → Bool
is_clash Absent = false
is_clash (Joined ty) = false
is_clash Clashed = true

-- the place, where there is one, in a list
abbrev pub places_in : Option Place → List Place
places_in None = []
places_in (Some place) = place ∷ []

-- what is known of the type of a column before the tables: what the rows of a thread program give whose columns have these types
abbrev pub typing_of_rows : TypesByName → Option Ty → List ℕ → ColumnTyping
typing_of_rows rows declared name = with_table declared Absent (get (pointwise nat_eq) rows name)

-- the place of the instance behind `set from`, where its rows do not join with a declared variable
abbrev pub clash_at_rows : Option Place → ColumnTyping → List Place
clash_at_rows None typing = []
clash_at_rows (Some place) typing = clash_at_table place Absent typing

-- what is read from: the tables of a reading statement, and the instance behind `set from` with the types of the columns of its rows
module _ (inputs : List InputTypes) (stage : Option Place) (rows : TypesByName) where
  -- what is known of the type of a column
  abbrev pub column_type_over : Option Ty → List ℕ → ColumnTyping
  column_type_over declared name = joined_columns declared (typing_of_rows rows declared name) (map (column_found name) inputs)

  -- the first place at which the join of a column, or the join with a declared variable, fails
  abbrev pub clashes_over : Option Ty → List ℕ → List Place
  clashes_over declared name =
      clash_at_rows stage (typing_of_rows rows declared name) ++ clash_of_columns declared (typing_of_rows rows declared name) (map (column_found name) inputs)

  -- a column with the type that it is read as
  abbrev pub column_over : PlacedName → Variable
  column_over n = record { name = n.name; ty = joined_type (column_type_over None n.name) }

  -- a column that is not declared, where it does not join, at the first place at which it does not
  abbrev pub unjoined_over : PlacedName → List PlacedName
  unjoined_over n = map (λ (place : Place). record { name = n.name; place = place }) (clashes_over None n.name)
