use Rattle.std.proofs.Common.{take}
use Rattle.ds2_elaboration.specs.UnitsBefore.{UnitsBefore}
use Rattle.ds2_names.specs.SourceUnit.{TableColumns, UnitSource}
use Rattle.ds2_tree.specs.UnitViews.{global_tree}
use Rattle.ds2_program_types.proofs.MethodLists.{AreTypedSoFar}
use Rattle.ds2_program_types.specs.PackageMethods.{AreTyped}
use Rattle.ds2_program_types.specs.UnitScopes.{AreUnitTables}
use Rattle.ds2_program_types.proofs.package_methods.package_methods.Given as goal

abbrev pub invariant-globals : goal.invariant-globals
invariant-globals l = (tables : TableColumns) (before : UnitsBefore) (u : UnitSource) → AreUnitTables tables before u l.unit → AreTypedSoFar (AreTyped tables before u) global_tree tables before u (take l.global-index l.globals) l.all
