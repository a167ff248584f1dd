use Rattle.std.proofs.Common.{◌≡◌, ◌++◌, drop}
use Rattle.std.specs.Prelude.{map}
use Rattle.ds2_tree.specs.UnitViews.{global_tree}
use Rattle.ds2_names.specs.SourceUnit.{declared_names, variable_declarations}
use Rattle.ds2_scope.proofs.collected.declared_names.Given as goal

abbrev pub invariant-globals : goal.invariant-globals
invariant-globals l = l.names ++ declared_names (variable_declarations (map global_tree (drop l.global-index l.globals))) ≡ declared_names (variable_declarations (map global_tree l.globals))
