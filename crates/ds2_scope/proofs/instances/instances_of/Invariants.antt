use Rattle.std.proofs.Common.{◌≡◌, ◌++◌, drop}
use Rattle.std.specs.Prelude.{map}
use Rattle.ds2_tree.specs.UnitViews.{global_tree}
use Rattle.ds2_names.specs.SourceUnit.{source_instances}
use Rattle.ds2_scope.specs.CodeUnits.{instances_in_source}
use Rattle.ds2_scope.proofs.instances.instances_of.Given as goal

abbrev pub invariant-globals : goal.invariant-globals
invariant-globals l = instances_in_source l.instances ++ source_instances (map global_tree (drop l.global-index l.globals)) ≡ source_instances (map global_tree l.globals)
