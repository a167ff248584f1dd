use Rattle.std.proofs.Common.{◌≡◌, ◌++◌, drop}
use Rattle.std.specs.Prelude.{map}
use Rattle.ds2_tree.specs.UnitViews.{global_tree}
use Rattle.ds2_names.specs.SourceUnit.{source_methods}
use Rattle.ds2_scope.specs.Collected.{method_name}
use Rattle.ds2_scope.proofs.collected.method_names.Given as goal

abbrev pub invariant-globals : goal.invariant-globals
invariant-globals l = l.names ++ map method_name (source_methods (map global_tree (drop l.global-index l.globals))) ≡ map method_name (source_methods (map global_tree l.globals))
