-- Words that the small programs of the examples are written with.
use Rattle.std.specs.Prelude.{ℕ, false, codes, List, [], ◌∷◌, map, Option, Some, None, ℤ, pos}
use Rattle.ds2_base.specs.declared.place.Place.{Place}
use Rattle.ds2_value.specs.Row.{Row}
use Rattle.ds2_value.specs.Run.{Written}
use Rattle.ds2_value.specs.declared.fault.Ending.{Ending}
use Rattle.ds2_value.specs.declared.fault.Ending.TheVariants.{Normal, Faulted}
use Rattle.ds2_value.specs.declared.fault.Fault.{Fault}
use Rattle.ds2_value.specs.declared.schema.Column.{Column}
use Rattle.ds2_value.specs.declared.ty.Ty.{Ty}
use Rattle.ds2_value.specs.declared.ty.Ty.TheVariants.{BigInt, Decimal as DecimalOf, Varchar}
use Rattle.ds2_value.specs.declared.value.Value.{Value}
use Rattle.ds2_value.specs.declared.value.Value.TheVariants.{Int, Dec, Txt}
use Rattle.ds2_table.specs.OneThread.{Answer}
use Rattle.ds2_meaning.specs.declared.expressions.Operation.{Operation}
use Rattle.ds2_meaning.specs.declared.expressions.Operation.TheVariants.{IntegerAdd, IntegerSubtract}
use Rattle.ds2_meaning.specs.declared.expressions.Prefix.TheVariants.{IntegerNegate}
use Rattle.ds2_meaning.specs.declared.expressions.Function.{Function}
use Rattle.ds2_meaning.specs.declared.globals.OutputColumn.{OutputColumn}
use Rattle.ds2_meaning.specs.declared.globals.OutputTable.{OutputTable}
use Rattle.ds2_meaning.specs.declared.globals.Variable as variables
use Rattle.ds2_meaning.specs.declared.location.Global.TheVariants.{Named}
use Rattle.ds2_meaning.specs.declared.location.Reference.{Reference}
use Rattle.ds2_meaning.specs.declared.location.Reference.TheVariants.{At, Local}
use Rattle.ds2_meaning.specs.declared.methods.Parameter.{Parameter}
use Rattle.ds2_meaning.specs.declared.readings.Reading.TheVariants.{Once}
use Rattle.ds2_meaning.specs.declared.readings.MentionedTable.{MentionedTable}
use Rattle.ds2_meaning.specs.HashObjects.{no_objects}
use Rattle.ds2_meaning.specs.ProgramMeaning.{program_answer}
use Rattle.ds2_meaning.specs.ProgramTree.{BodyTree, UnitTree, OverTables}
use Rattle.ds2_meaning.specs.TypedExpression.{TypedExpression, Constant, Variable, Prefixed, Chain, Link, NoLink, Applied}
use Rattle.ds2_meaning.specs.TypedStatement.{TypedStatement, Assign}
use Rattle.ds2_meaning.specs.View.{all_expressions, all_statements}

-- the place in this column of the first line
abbrev pub col : ℕ → Place
col column = record { line = 1; column = column }

-- ---- values

-- a BIGINT value that is not negative
abbrev pub natural : ℕ → Value
natural n = Int (pos n)

-- a DECIMAL value of so many units at a scale
abbrev pub fixed : ℤ → ℕ → Value
fixed units scale = Dec (record { units = units; scale = scale })

-- ---- expressions

-- a declared variable or a column
abbrev pub global : List ℕ → Reference
global name = At (Named name)

-- its value, of this type
abbrev pub value_of_type : List ℕ → Ty → TypedExpression
value_of_type name ty = Variable (global name) ty

-- the value of a BIGINT variable
abbrev pub variable_of : List ℕ → TypedExpression
variable_of name = value_of_type name BigInt

-- the value of a BIGINT parameter or local
abbrev pub local : List ℕ → TypedExpression
local name = Variable (Local name) BigInt

-- an integer constant
abbrev pub int : ℕ → TypedExpression
int n = Constant (natural n) BigInt

-- a decimal constant of so many units, digits and places behind the point
abbrev pub decimal_constant : ℕ → ℕ → ℕ → TypedExpression
decimal_constant units digits scale = Constant (fixed (pos units) scale) (DecimalOf digits scale)

-- a text constant of so many characters
abbrev pub text_constant : List ℕ → ℕ → TypedExpression
text_constant text n = Constant (Txt text) (Varchar n)

-- an operation on two operands
abbrev pub binary : Operation → Ty → TypedExpression → TypedExpression → TypedExpression
binary operation ty a b = Chain a (Link false operation b ty NoLink)

-- the sum of two BIGINT operands
abbrev pub plus : TypedExpression → TypedExpression → TypedExpression
plus a b = binary IntegerAdd BigInt a b

-- the difference of two BIGINT operands
abbrev pub less : TypedExpression → TypedExpression → TypedExpression
less a b = binary IntegerSubtract BigInt a b

-- a BIGINT operand with the other sign
abbrev pub negated : TypedExpression → TypedExpression
negated a = Prefixed IntegerNegate a BigInt

-- a function of these arguments
abbrev pub function_of : Function → Ty → List TypedExpression → TypedExpression
function_of function ty arguments = Applied function (all_expressions arguments) ty

-- ---- statements

-- variable = value; in this column
abbrev pub assign_at : ℕ → List ℕ → TypedExpression → TypedStatement
assign_at column name value = Assign (col column) (global name) value

-- local = value; in this column
abbrev pub assign_local : ℕ → List ℕ → TypedExpression → TypedStatement
assign_local column name value = Assign (col column) (Local name) value

-- ---- programs

-- a BIGINT variable
abbrev pub bigint : List ℕ → variables.Variable
bigint name = record { name = name; ty = BigInt }

-- a BIGINT parameter by value
abbrev pub by_value : List ℕ → Parameter
by_value name = record { name = name; ty = BigInt; is_in_out = false }

-- a BIGINT column
abbrev pub bigint_column : List ℕ → Column
bigint_column name = record { name = name; ty = BigInt }

-- a table of the store
abbrev pub stored : List ℕ → MentionedTable
stored name = record { name = name; maker = 0 }

-- a system method without locals that has these statements
abbrev pub body_of : List TypedStatement → BodyTree
body_of statements = record { locals = []; statements = all_statements statements }

-- a column of an output with the name and the type of its variable
abbrev pub output_column : variables.Variable → OutputColumn
output_column v = record { name = v.name; source = v.name; ty = v.ty }

-- an output `out` of these variables
abbrev pub output_of : List variables.Variable → OutputTable
output_of columns = record { name = codes "out"; overwrites = false; columns = map output_column columns }

-- a program with these variables whose `run` reads nothing and has these statements, and whose output has all variables
abbrev pub unit_with : List variables.Variable → List TypedStatement → UnitTree
unit_with declared body = record {
  thread = None;
  parameters = [];
  declared = declared;
  columns = [];
  retained = [];
  instances = [];
  objects = no_objects;
  threads = [];
  reading = Once;
  outputs = output_of declared ∷ [];
  methods = [];
  init = body_of [];
  run = body_of body;
  term = body_of [];
}

-- likewise, with BIGINT variables of these names
abbrev pub program_with : List (List ℕ) → List TypedStatement → UnitTree
program_with names body = unit_with (map bigint names) body

-- ---- answers

-- what is seen of an answer: rows, lines, ending, and what each unit left of the budget
pub record Seen : Type 0 where
  pub rows : List Row
  pub lines : List (List ℕ)
  pub ending : Option Ending
  pub budgets_left : List ℕ

-- an answer without the numbers of outputs and without what it tells of stages
abbrev pub seen : Answer → Seen
seen a = record { rows = map (λ (w : Written). w.row) a.rows; lines = a.lines; ending = a.ending; budgets_left = a.budgets_left }

-- what is seen of a program that reads nothing
abbrev pub ran : UnitTree → ℕ → Seen
ran p budget = seen (program_answer (OverTables p) [] (λ table. []) budget 0)

-- a normal end with these rows, and what `init`, `run` and `term` left
abbrev pub ends_with : List Row → List ℕ → Seen
ends_with rows budgets_left = record { rows = rows; lines = []; ending = Some Normal; budgets_left = budgets_left }

-- a fault at this column in the first `run`, of which so much of the budget was left
abbrev pub faults_at : Fault → ℕ → List ℕ → Seen
faults_at fault column budgets_left = record { rows = []; lines = []; ending = Some (Faulted fault (col column)); budgets_left = budgets_left }
