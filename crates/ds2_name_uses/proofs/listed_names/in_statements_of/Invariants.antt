use Rattle.std.proofs.Common.{◌≡◌, drop}
use Rattle.std.specs.Prelude.{map}
use Rattle.ds2_tree.specs.UnitViews.{global_tree}
use Rattle.ds2_name_uses.specs.ListedParts.{unknown_in_lists}
use Rattle.ds2_name_uses.specs.ScopeTables.{tests_by}
use Rattle.ds2_names.specs.NameRules.{from_each}
use Rattle.ds2_scope.specs.Earliest.{earlier_of, earliest}
use Rattle.ds2_name_uses.proofs.listed_names.in_statements_of.Given as goal

abbrev pub invariant-globals : goal.invariant-globals
invariant-globals l = earlier_of l.found (earliest (from_each (unknown_in_lists (tests_by l.scope)) (map global_tree (drop l.global-index l.globals)))) ≡ earliest (from_each (unknown_in_lists (tests_by l.scope)) (map global_tree l.globals))
