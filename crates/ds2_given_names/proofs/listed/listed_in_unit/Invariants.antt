use Rattle.std.proofs.Common.{◌≡◌, ◌++◌, drop}
use Rattle.std.specs.Prelude.{map}
use Rattle.ds2_tree.specs.UnitViews.{global_tree}
use Rattle.ds2_names.specs.NameRules.{from_each}
use Rattle.ds2_scope.specs.Collected.{listed_in}
use Rattle.ds2_given_names.proofs.listed.listed_in_unit.Given as goal

abbrev pub invariant-globals : goal.invariant-globals
invariant-globals l = l.names ++ from_each (listed_in l.word) (map global_tree (drop l.global-index l.globals)) ≡ from_each (listed_in l.word) (map global_tree l.globals)
