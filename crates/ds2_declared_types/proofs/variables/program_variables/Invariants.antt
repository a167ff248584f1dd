use Rattle.std.proofs.Common.{◌≡◌, ◌++◌, drop}
use Rattle.std.specs.Prelude.{map}
use Rattle.ds2_tree.specs.UnitViews.{global_tree}
use Rattle.ds2_names.specs.SourceUnit.{variable_declarations}
use Rattle.ds2_elaboration.specs.SourceTypes.{declared_variables}
use Rattle.ds2_declared_types.proofs.variables.program_variables.Given as goal

abbrev pub invariant-globals : goal.invariant-globals
invariant-globals l = l.variables ++ declared_variables (variable_declarations (map global_tree (drop l.global-index l.globals))) ≡ declared_variables (variable_declarations (map global_tree l.globals))
