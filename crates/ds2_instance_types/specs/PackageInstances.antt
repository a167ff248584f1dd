-- Instances of packages, one by one.
use Rattle.std.specs.Prelude.{◌≡◌, ℕ, List, map}
use Rattle.ds2_base.specs.declared.place.Place.{Place}
use Rattle.ds2_tree.specs.declared.globals.Constant.{Constant}
use Rattle.ds2_meaning.specs.IsTyped.{method_number}
use Rattle.ds2_meaning.specs.ProgramTree.{InstanceTree}
use Rattle.ds2_meaning.specs.TypedExpression.{NoArgument, TypedArguments}
use Rattle.ds2_meaning.specs.TypedStatement.{Construct, TypedStatement}
use Rattle.ds2_meaning.specs.View.{argument_tree, in_a_row, instance_tree}
use Rattle.ds2_meaning.specs.declared.units.Instance as typed
use Rattle.ds2_names.specs.SourceUnit.{spelled_name}
use Rattle.ds2_scope.specs.declared.instances.Instance.{Instance}
use Rattle.ds2_elaboration.specs.ProgramTypes.{construction}
use Rattle.ds2_elaboration.specs.UnitsBefore.{PackageTypes}

-- an instance of a package, by its name
abbrev pub instance_of_types : List ℕ → PackageTypes → InstanceTree
instance_of_types name p = record { name = name; package' = p.name; variables = p.variables; objects = p.objects; methods = p.methods }

-- the call of its constructor that an instance holds
abbrev pub construction_of : typed.Instance → TypedStatement
construction_of i = Construct i.place i.name i.constructor (in_a_row (map argument_tree i.arguments) NoArgument)

-- a call of the constructor of a package for an instance of this name, with these arguments
abbrev pub construction_with : Place → List ℕ → PackageTypes → TypedArguments → TypedStatement
construction_with place name p arguments = Construct place name (method_number 0 p.methods p.name) arguments

-- an instance of a package with these constants, typed
pub record IsInstanceOf (i : Instance) (constants : List Constant) (p : PackageTypes) (own : typed.Instance) : Type 0 where
  pub tree : instance_tree own ≡ instance_of_types (spelled_name i.name.now) p
  pub call : construction_of own ≡ construction i.keyword.now.place (spelled_name i.name.now) i.name.now.place constants p
