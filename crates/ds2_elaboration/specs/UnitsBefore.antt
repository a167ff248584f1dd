-- What is known of the types of the units that stand before a unit of a source.
use Rattle.std.specs.Prelude.{ℕ, Bool, false, bytes_eq, List, [], ◌∷◌, option_and_then, Option, Some, None}
use Rattle.std.specs.List.{find}
use Rattle.std.specs.Option.{option_map_or}
use Rattle.ds2_token.specs.declared.token.Token.{Token}
use Rattle.ds2_tree.specs.Globals.{Method}
use Rattle.ds2_value.specs.Row.{Columns}
use Rattle.ds2_meaning.specs.declared.globals.Variable as typed
use Rattle.ds2_meaning.specs.declared.globals.OutputTable as typed_output
use Rattle.ds2_meaning.specs.HashObjects.{DeclaredObjects}
use Rattle.ds2_meaning.specs.Method.{MethodTree}
use Rattle.ds2_meaning.specs.ProgramMeaning.{output_columns}
use Rattle.ds2_meaning.specs.ProgramTree.{ProgramTree, reader_of}
use Rattle.ds2_names.specs.SourceLimits.{BeforeUnit}
use Rattle.ds2_names.specs.SourceUnit.{SourceInstance, InstanceOf, AnyThread, instance_named, spelled_name}

-- a package: its name, the methods of its source, and the variables, the hash objects with iterators and the methods that each
-- instance of it has
pub record PackageTypes : Type 0 where
  pub name : List ℕ
  pub sources : List Method
  pub variables : List typed.Variable
  pub objects : DeclaredObjects
  pub methods : List MethodTree

-- what stands before a unit: for its names, and packages and thread programs with their types, the last one first
pub record UnitsBefore : Type 0 where
  pub names : BeforeUnit
  pub packages : List PackageTypes
  pub threads : List ProgramTree

-- the package of this name
abbrev pub package_types : List PackageTypes → List ℕ → Option PackageTypes
package_types packages name = find (λ (p : PackageTypes). bytes_eq p.name name) packages

-- a thread program has this name
abbrev pub has_thread_name : List ℕ → ProgramTree → Bool
has_thread_name name p = option_map_or (λ own. bytes_eq own name) (reader_of p).thread false

-- the thread program of this name
abbrev pub typed_thread_named : List ProgramTree → List ℕ → Option ProgramTree
typed_thread_named threads name = find (has_thread_name name) threads

-- the thread program that an instance is one of
abbrev pub thread_of_sort : List ProgramTree → InstanceOf → Option ProgramTree
thread_of_sort threads (AnyThread thread) = typed_thread_named threads (spelled_name thread)
thread_of_sort threads _ = None

-- the thread program that the instance of this name is one of
abbrev pub thread_behind_instance : List ProgramTree → List SourceInstance → Token → Option ProgramTree
thread_behind_instance threads instances name =
    option_and_then (λ (i : SourceInstance). thread_of_sort threads i.sort) (instance_named instances (spelled_name name))

-- the thread program that `set from` reads from, where a reading statement has it
abbrev pub typed_stage : List ProgramTree → List SourceInstance → Option Token → Option ProgramTree
typed_stage threads instances None = None
typed_stage threads instances (Some name) = thread_behind_instance threads instances name

-- the columns of the one output of a thread program
abbrev pub columns_of_one : List typed_output.OutputTable → Columns
columns_of_one [] = []
columns_of_one (output ∷ outputs) = output_columns output

-- the columns that `set from` reads
abbrev pub typed_stage_columns : Option ProgramTree → Columns
typed_stage_columns None = []
typed_stage_columns (Some p) = columns_of_one (reader_of p).outputs
