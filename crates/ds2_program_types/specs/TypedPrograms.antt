-- Typed units: packages, and data programs and thread programs with the places of their system methods, which their trees leave out.
use Rattle.std.specs.Prelude.{◌≡◌, codes, List, option_map}
use Rattle.ds2_elaboration.specs.UnitsBefore.{UnitsBefore}
use Rattle.ds2_declared_types.specs.TypesKnown.{types_of_package}
use Rattle.ds2_tree.specs.Globals.{Method}
use Rattle.ds2_tree.specs.UnitViews.{package_tree}
use Rattle.ds2_tree.specs.declared.units.Package.{Package}
use Rattle.ds2_meaning.specs.View.{objects_tree, typed_data_program, typed_thread_program, unit_tree}
use Rattle.ds2_meaning.specs.declared.units.Program.{Program}
use Rattle.ds2_meaning.specs.declared.units.TypedData.{TypedData}
use Rattle.ds2_meaning.specs.declared.units.TypedPackage.{TypedPackage}
use Rattle.ds2_meaning.specs.declared.units.TypedThread.{TypedThread, out-TypedThread}
use Rattle.ds2_names.specs.SourceUnit.{TableColumns, source_methods, spelled_name, unit_of_package, UnitSource}
use Rattle.ds2_names.specs.Uses.{method_named}
use Rattle.ds2_elaboration.specs.ProgramTypes.{typed_package, typed_program, typed_unit}
use Rattle.ds2_elaboration.specs.SourceTypes.{parameter_variables, unit_stage}
use Rattle.ds2_program_types.specs.TypedMethodLists.{kept_place, place_of_name}

-- each system method of a program keeps the place of the name of the first of these methods that has its name
pub record HavePlaces (methods : List Method) (p : Program) : Type 0 where
  pub init : kept_place p.init ≡ place_of_name (method_named methods (codes "init"))
  pub run : kept_place p.run ≡ place_of_name (method_named methods (codes "run"))
  pub term : kept_place p.term ≡ place_of_name (method_named methods (codes "term"))

-- a unit behind these units, typed, without the thread program that it reads from
pub record IsProgramOf (tables : TableColumns) (before : UnitsBefore) (u : UnitSource) (p : Program) : Type 0 where
  pub tree : unit_tree (option_map spelled_name u.name) (parameter_variables u) p ≡ typed_unit tables before u
  pub places : HavePlaces (source_methods u.globals) p

-- and with it
pub record IsStagedProgram (tables : TableColumns) (before : UnitsBefore) (u : UnitSource) (d : TypedData) : Type 0 where
  pub program : IsProgramOf tables before u d.program
  pub stage : option_map typed_thread_program d.stage ≡ unit_stage tables before u

-- a data program behind these units, typed
pub record IsTypedData (tables : TableColumns) (before : UnitsBefore) (u : UnitSource) (d : TypedData) : Type 0 where
  pub tree : typed_data_program d ≡ typed_program tables before u
  pub places : HavePlaces (source_methods u.globals) d.program

-- a thread program behind these units, typed
pub record IsTypedThread (tables : TableColumns) (before : UnitsBefore) (u : UnitSource) (t : TypedThread) : Type 0 where
  pub tree : typed_thread_program t ≡ typed_program tables before u
  pub places : HavePlaces (source_methods u.globals) (out-TypedThread t).program

-- a package behind these units, typed
abbrev pub IsTypedPackage : TableColumns → UnitsBefore → Package → TypedPackage → Type 0
IsTypedPackage tables before source p =
    types_of_package source p ≡ typed_package tables before (unit_of_package (package_tree source)) (spelled_name source.name)
