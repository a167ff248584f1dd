use Rattle.std.proofs.Common.{◌≡◌, drop}
use Rattle.std.specs.Prelude.{map}
use Rattle.ds2_elaboration.specs.UnitsBefore.{package_types}
use Rattle.ds2_declared_types.specs.TypesKnown.{kept_types}
use Rattle.ds2_declared_types.proofs.known.first_package.Given as goal

abbrev pub invariant-packages : goal.invariant-packages
invariant-packages l = package_types (map kept_types (drop l.p-index l.packages)) l.name ≡ package_types (map kept_types l.packages) l.name
