-- Programs, as plain data.
use Rattle.std.specs.Prelude.{ℕ, Bool, bytes_eq, not, ◌&&◌, ◌||◌, if◌then◌else◌, List, [], ◌∷◌, ◌++◌, map, Option, Some, None}
use Rattle.std.specs.List.{list_any}
use Rattle.ds2_meaning.specs.declared.globals.OutputColumn.{OutputColumn}
use Rattle.ds2_meaning.specs.declared.globals.OutputTable.{OutputTable}
use Rattle.ds2_meaning.specs.declared.globals.Variable.{Variable}
use Rattle.ds2_meaning.specs.declared.hashes.ThreadInstance.{ThreadInstance}
use Rattle.ds2_meaning.specs.declared.readings.Reading.{Reading}
use Rattle.ds2_meaning.specs.HashObjects.{DeclaredObjects, no_objects}
use Rattle.ds2_meaning.specs.Location.{Home}
use Rattle.ds2_meaning.specs.Method.{MethodTree, Methods, Declarations}
use Rattle.ds2_meaning.specs.Reading.{is_column}
use Rattle.ds2_meaning.specs.TypedStatement.{TypedStatements, have_output}

-- a system method: its locals and its statements
pub record BodyTree : Type 0 where
  pub locals : List Variable
  pub statements : TypedStatements

-- an instance of a package: its name, the package's name, and the variables, hash objects with iterators, and methods of the
-- package
pub record InstanceTree : Type 0 where
  pub name : List ℕ
  pub package' : List ℕ
  pub variables : List Variable
  pub objects : DeclaredObjects
  pub methods : List MethodTree

-- a data or thread program, without the thread program that it reads from
pub record UnitTree : Type 0 where
  -- the name and the parameters of a thread program; a data program has none
  pub thread : Option (List ℕ)
  pub parameters : List Variable
  -- the declared variables, and the columns that are not declared
  pub declared : List Variable
  pub columns : List Variable
  -- the names that `retain` lists
  pub retained : List (List ℕ)
  pub instances : List InstanceTree
  pub objects : DeclaredObjects
  -- the instances of thread programs
  pub threads : List ThreadInstance
  pub reading : Reading
  pub outputs : List OutputTable
  pub methods : List MethodTree
  -- the system methods; the constructors of the instances come first in `init`
  pub init : BodyTree
  pub run : BodyTree
  pub term : BodyTree

-- a program that reads tables or nothing, or one whose `set from` reads from a thread program
pub data ProgramTree : Type 0 where
  OverTables : UnitTree → ProgramTree
  OverStage : UnitTree → (stage : ProgramTree) → ProgramTree

-- the program without the thread program that it reads from
abbrev pub reader_of : ProgramTree → UnitTree
reader_of (OverTables p) = p
reader_of (OverStage p stage) = p

-- the variables of the columns of an output
abbrev pub sources : OutputTable → List (List ℕ)
sources output = map (λ (c : OutputColumn). c.source) output.columns

-- for each output of a program the variables of its columns
abbrev pub output_sources : UnitTree → List (List (List ℕ))
output_sources p = map sources p.outputs

-- the program data vector
abbrev pub data_vector : UnitTree → List Variable
data_vector p = p.declared ++ p.columns

-- a list of names has a name
abbrev pub is_listed : List (List ℕ) → List ℕ → Bool
is_listed names name = list_any (λ other. bytes_eq other name) names

-- a list of variables has one of this name
abbrev pub has_variable : List Variable → List ℕ → Bool
has_variable variables name = list_any (λ (v : Variable). bytes_eq v.name name) variables

-- `run` sets a variable of the vector to null that is neither retained nor a column of the reading statement
abbrev pub is_cleared : UnitTree → List ℕ → Bool
is_cleared p name = has_variable (data_vector p) name && not (is_listed p.retained name) && not (is_column p.reading name)

-- the methods of the instance of this name
abbrev pub instance_methods : List InstanceTree → List ℕ → List MethodTree
instance_methods [] name = []
instance_methods (instance ∷ instances) name = if bytes_eq instance.name name then instance.methods else instance_methods instances name

-- the methods of the program itself, and those of its instances
abbrev pub methods_of : UnitTree → Methods
methods_of p None = p.methods
methods_of p (Some instance) = instance_methods p.instances instance

-- the hash objects and iterators of the instance of this name
abbrev pub instance_objects : List InstanceTree → List ℕ → DeclaredObjects
instance_objects [] name = no_objects
instance_objects (instance ∷ instances) name = if bytes_eq instance.name name then instance.objects else instance_objects instances name

-- the hash objects and iterators of the program itself, and those of its instances
abbrev pub objects_of : UnitTree → Home → DeclaredObjects
objects_of p None = p.objects
objects_of p (Some instance) = instance_objects p.instances instance

-- what the code of the program and of its instances may call
abbrev pub declarations_of : UnitTree → Declarations
declarations_of p = record { methods = methods_of p; objects = objects_of p }

-- an `output` statement stands in the program
abbrev pub program_has_output : UnitTree → Bool
program_has_output p =
    have_output p.init.statements || have_output p.run.statements || have_output p.term.statements || list_any (λ (m : MethodTree). have_output m.body) p.methods
