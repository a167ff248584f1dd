-- The types of what a unit of a source names: declared variables, columns joined over the tables, parameters and locals.
use Rattle.std.specs.Prelude.{ℕ, Bool, true, false, bytes_eq, codes, if◌then◌else◌, List, [], ◌∷◌, ◌++◌, map, is_some, Option, Some, None}
use Rattle.std.specs.Option.{option_map}
use Rattle.ds2_base.specs.declared.place.Place.{Place}
use Rattle.ds2_token.specs.Words.{is_word}
use Rattle.ds2_token.specs.declared.token.Token.{Token}
use Rattle.ds2_tree.specs.Globals.{Method}
use Rattle.ds2_tree.specs.declared.globals.Parameter as source_parameter
use Rattle.ds2_tree.specs.declared.globals.Returns.{Returns}
use Rattle.ds2_tree.specs.declared.globals.Scale.{Scale}
use Rattle.ds2_tree.specs.declared.globals.TypeName.{TypeName}
use Rattle.ds2_tree.specs.declared.globals.TypeName.TheVariants as type_name
use Rattle.ds2_tree.specs.declared.globals.VariableDeclaration.{VariableDeclaration}
use Rattle.ds2_tree.specs.declared.readings.Input as source_input
use Rattle.ds2_value.specs.Row.{Columns}
use Rattle.ds2_value.specs.Types.{join_of, same_ty}
use Rattle.ds2_value.specs.declared.ty.Ty.{Ty}
use Rattle.ds2_value.specs.declared.ty.Ty.TheVariants.{BigInt, Decimal as DecimalOf, Char, Varchar}
use Rattle.ds2_meaning.specs.declared.globals.Variable as typed
use Rattle.ds2_meaning.specs.declared.methods.Parameter as typed_parameter
use Rattle.ds2_meaning.specs.IsTyped.{type_in, with_parameters_of}
use Rattle.ds2_names.specs.NameRules.{from_each, spelled_number}
use Rattle.ds2_meaning.specs.ProgramTree.{ProgramTree}
use Rattle.ds2_names.specs.SourceUnit.{TableColumns, UnitSource, SourceNames, spelled_name, PlacedName, variable_declarations, tables_of_reading, stage_token, names_of_unit}
use Rattle.ds2_elaboration.specs.UnitsBefore.{UnitsBefore, typed_stage, typed_stage_columns}

-- ---- spelled types

-- the scale that a type gives; 0 where it is left out
abbrev pub scale_or_zero : Option Scale → ℕ
scale_or_zero None = 0
scale_or_zero (Some scale) = spelled_number scale.number

-- the type that a type name spells
abbrev pub spelled_type : TypeName → Ty
spelled_type (type_name.BigInt keyword) = BigInt
spelled_type (type_name.Decimal keyword opening precision scale closing) = DecimalOf (spelled_number precision) (scale_or_zero scale)
spelled_type (type_name.Text keyword opening width closing) =
    if is_word (codes "char") keyword then Char (spelled_number width) else Varchar (spelled_number width)

-- the variables of declarations, with their types
abbrev pub declared_variables : List VariableDeclaration → List typed.Variable
declared_variables declarations =
    from_each (λ (v : VariableDeclaration). map (λ (t : Token). record { name = spelled_name t; ty = spelled_type v.ty }) v.names) declarations

-- a parameter of a method, with its type
abbrev pub elaborated_parameter : source_parameter.Parameter → typed_parameter.Parameter
elaborated_parameter p = record { name = spelled_name p.name; ty = spelled_type p.ty; is_in_out = is_some p.in_out }

-- the parameters of a method, with their types
abbrev pub elaborated_parameters : Method → List typed_parameter.Parameter
elaborated_parameters m = map elaborated_parameter m.parameters.list

-- the parameters and locals of a method, with their types
abbrev pub variables_in_method : Method → List typed.Variable
variables_in_method m = with_parameters_of (elaborated_parameters m) (declared_variables m.locals)

-- the type that a method returns, where it returns a value
abbrev pub returned_type : Option Returns → Option Ty
returned_type returns = option_map (λ (r : Returns). spelled_type r.ty) returns

-- ---- columns

-- the type of a column of this name
abbrev pub type_of_column : List ℕ → Columns → Option Ty
type_of_column name [] = None
type_of_column name (c ∷ columns) = if bytes_eq c.name name then Some c.ty else type_of_column name columns

-- what is known of the type of a column over the first tables of a statement: none of them has it, its type, or that a rule is
-- broken
pub data ColumnTyping : Type 0 where
  Absent : ColumnTyping
  Joined : Ty → ColumnTyping
  Clashed : ColumnTyping

-- there is a join, and it is this type
abbrev pub is_joined_to : Ty → Option Ty → Bool
is_joined_to ty None = false
is_joined_to ty (Some joined) = same_ty joined ty

-- a declared variable of a column's name has the type that it and the column join to; where none is declared any type will do
abbrev pub agrees_with_declared : Option Ty → Ty → Bool
agrees_with_declared None ty = true
agrees_with_declared (Some declared) ty = is_joined_to declared (join_of declared ty)

-- the type that the tables join to up to here, where the declared variable agrees with it
abbrev pub agreed : Option Ty → Option Ty → ColumnTyping
agreed declared None = Clashed
agreed declared (Some ty) = if agrees_with_declared declared ty then Joined ty else Clashed

-- what is known of the type of a column with one table more
abbrev pub with_table : Option Ty → ColumnTyping → Option Ty → ColumnTyping
with_table declared typing None = typing
with_table declared Absent (Some ty) = agreed declared (Some ty)
with_table declared (Joined so_far) (Some ty) = agreed declared (join_of so_far ty)
with_table declared Clashed (Some ty) = Clashed

-- the type of a column over these further tables, joined from the left
abbrev pub joined_over : TableColumns → Option Ty → List ℕ → ColumnTyping → List source_input.Input → ColumnTyping
joined_over tables declared name typing [] = typing
joined_over tables declared name typing (i ∷ inputs) =
    joined_over tables declared name (with_table declared typing (type_of_column name (tables (spelled_name i.table)))) inputs

-- the place of the table at which this one step breaks a rule: none where it was broken before
abbrev pub clash_at_table : Place → ColumnTyping → ColumnTyping → List Place
clash_at_table place Clashed behind = []
clash_at_table place before Clashed = place ∷ []
clash_at_table place before behind = []

-- the first of these further tables at which the join of a column, or the join with its declared variable, fails
abbrev pub clashing_table : TableColumns → Option Ty → List ℕ → ColumnTyping → List source_input.Input → List Place
clashing_table tables declared name typing [] = []
clashing_table tables declared name typing (i ∷ inputs) =
    let behind = with_table declared typing (type_of_column name (tables (spelled_name i.table))) in
    clash_at_table i.table.place typing behind ++ clashing_table tables declared name behind inputs

-- the type of a column whose tables join; BIGINT stands for what has none, which is refused and of which no type is known
abbrev pub joined_type : ColumnTyping → Ty
joined_type (Joined ty) = ty
joined_type _ = BigInt

-- ---- the program data vector

-- the declared variables of a unit
abbrev pub program_variables : UnitSource → List typed.Variable
program_variables u = declared_variables (variable_declarations u.globals)

-- the parameters of a thread program, with their types
abbrev pub parameter_variables : UnitSource → List typed.Variable
parameter_variables u = map (λ (p : source_parameter.Parameter). record { name = spelled_name p.name; ty = spelled_type p.ty }) u.parameters

module _ (tables : TableColumns) (before : UnitsBefore) (u : UnitSource) where
  -- what the unit gives names to
  abbrev pub unit_names : SourceNames
  unit_names = names_of_unit tables before.names.known u

  -- the tables of its reading statement
  abbrev pub program_inputs : List source_input.Input
  program_inputs = tables_of_reading unit_names.reading

  -- the thread program that it reads from
  abbrev pub unit_stage : Option ProgramTree
  unit_stage = typed_stage before.threads unit_names.instances (stage_token unit_names.reading)

  -- what is known of the type of a column before the tables: what the thread program gives that is read from
  abbrev pub stage_typing : Option Ty → List ℕ → ColumnTyping
  stage_typing declared name = with_table declared Absent (type_of_column name (typed_stage_columns unit_stage))

  -- the type of a column of its reading statement, beside a declared variable of this type or none
  abbrev pub column_typing : Option Ty → List ℕ → ColumnTyping
  column_typing declared name = joined_over tables declared name (stage_typing declared name) program_inputs

  -- the place of the instance behind `set from`, where the column of the thread program does not join with its declared variable
  abbrev pub clash_at_stage : Option Ty → List ℕ → Option Token → List Place
  clash_at_stage declared name None = []
  clash_at_stage declared name (Some instance) = clash_at_table instance.place Absent (stage_typing declared name)

  -- the first table of its reading statement at which the types of a column do not join, or the instance behind `set from`
  abbrev pub clashing_at : Option Ty → List ℕ → List Place
  clashing_at declared name =
      clash_at_stage declared name (stage_token unit_names.reading) ++ clashing_table tables declared name (stage_typing declared name) program_inputs

  -- the columns of the reading statement that are not declared, with the types that their tables join to
  abbrev pub column_variables : List typed.Variable
  column_variables = map (λ (n : PlacedName). record { name = n.name; ty = joined_type (column_typing None n.name) }) unit_names.columns

  -- the columns of the reading statement that are not declared and whose tables do not join, each at the first table at which they
  -- do not
  abbrev pub unjoined_columns : List PlacedName
  unjoined_columns =
      from_each (λ (n : PlacedName). map (λ (place : Place). record { name = n.name; place = place }) (clashing_at None n.name)) unit_names.columns

  -- TypeClash of columns: for each column of the statement the first table at which its types do not fit
  abbrev pub clashing_tables : List Place
  clashing_tables =
      from_each (λ (v : typed.Variable). clashing_at (type_in (program_variables u) v.name) v.name) (program_variables u)
      ++ from_each (λ (n : PlacedName). clashing_at (type_in (program_variables u) n.name) n.name) unit_names.columns

  -- the variables of the vector, in order: declared ones, then columns
  abbrev pub vector_variables : List typed.Variable
  vector_variables = program_variables u ++ column_variables
