-- What the code keeps of the types of the packages and thread programs before a unit.
use Rattle.std.specs.Prelude.{◌≡◌, ℕ, List, [], map}
use Rattle.std.specs.Option.{option_map_or}
use Rattle.ds2_tree.specs.Globals.{Method}
use Rattle.ds2_tree.specs.UnitViews.{package_tree}
use Rattle.ds2_tree.specs.declared.units.Package.{Package}
use Rattle.ds2_value.specs.declared.schema.Column.{Column}
use Rattle.ds2_meaning.specs.ProgramTree.{ProgramTree, reader_of}
use Rattle.ds2_meaning.specs.View.{objects_tree, typed_method, typed_thread_program}
use Rattle.ds2_meaning.specs.declared.globals.OutputColumn.{OutputColumn}
use Rattle.ds2_meaning.specs.declared.globals.Variable.{Variable}
use Rattle.ds2_meaning.specs.declared.units.TypedPackage.{TypedPackage}
use Rattle.ds2_names.specs.SourceUnit.{source_methods}
use Rattle.ds2_elaboration.specs.UnitsBefore.{PackageTypes, UnitsBefore, package_types, typed_thread_named}
use Rattle.ds2_declared_types.specs.declared.known.KnownPackage.{KnownPackage}
use Rattle.ds2_declared_types.specs.declared.known.KnownTypes.{KnownTypes}

-- a package of a source with its types
abbrev pub types_of_package : Package → TypedPackage → PackageTypes
types_of_package source typed = record {
  name = typed.name;
  sources = source_methods (package_tree source).globals;
  variables = typed.variables;
  objects = objects_tree typed.hashes typed.iterators;
  methods = map typed_method typed.methods;
}

-- the types of a package that is kept
abbrev pub kept_types : KnownPackage → PackageTypes
kept_types k = types_of_package k.source.now k.typed

-- what is kept tells the types of the packages and of the thread programs before a unit, in the same order
pub record TellsTypes (k : KnownTypes) (before : UnitsBefore) : Type 0 where
  pub packages : map kept_types k.packages ≡ before.packages
  pub threads : map typed_thread_program k.threads ≡ before.threads

-- the methods of the source of the package of this name; none where there is none
abbrev pub sources_named : List PackageTypes → List ℕ → List Method
sources_named packages name = option_map_or (λ (p : PackageTypes). p.sources) (package_types packages name) []

-- the parameters of the thread program of this name; none where there is none
abbrev pub parameters_named : List ProgramTree → List ℕ → List Variable
parameters_named threads name = option_map_or (λ p. (reader_of p).parameters) (typed_thread_named threads name) []

-- a column of an output as one that is read
abbrev pub column_read : OutputColumn → Column
column_read c = record { name = c.name; ty = c.ty }
