use Rattle.std.proofs.Common.{◌≡◌, drop}
use Rattle.std.specs.Prelude.{map}
use Rattle.ds2_tree.specs.UnitViews.{global_tree}
use Rattle.ds2_names.specs.NameRules.{from_each}
use Rattle.ds2_names.specs.SourceUnit.{source_methods}
use Rattle.ds2_scope.specs.CodeUnits.{unit_kind}
use Rattle.ds2_scope.specs.Earliest.{earlier_of, earliest}
use Rattle.ds2_misplaced.specs.MisplacedParts.{misplaced_in_method_of}
use Rattle.ds2_misplaced.proofs.methods_and_outputs.in_methods.Given as goal

abbrev pub invariant-globals : goal.invariant-globals
invariant-globals l =
    earlier_of l.found (earliest (from_each (misplaced_in_method_of (unit_kind l.kind)) (source_methods (map global_tree (drop l.global-index l.globals)))))
    ≡ earliest (from_each (misplaced_in_method_of (unit_kind l.kind)) (source_methods (map global_tree l.globals)))
