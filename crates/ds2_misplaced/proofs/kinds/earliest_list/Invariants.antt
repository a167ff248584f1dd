use Rattle.std.proofs.Common.{◌≡◌, drop}
use Rattle.std.specs.Prelude.{map}
use Rattle.ds2_tree.specs.UnitViews.{global_tree}
use Rattle.ds2_names.specs.UnitRules.{list_keywords}
use Rattle.ds2_scope.specs.Earliest.{earlier_of, earliest}
use Rattle.ds2_misplaced.proofs.kinds.earliest_list.Given as goal

abbrev pub invariant-globals : goal.invariant-globals
invariant-globals l = earlier_of l.found (earliest (list_keywords (map global_tree (drop l.global-index l.globals)))) ≡ earliest (list_keywords (map global_tree l.globals))
