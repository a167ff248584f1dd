use Rattle.std.proofs.Common.{◌≡◌, drop}
use Rattle.std.specs.Prelude.{map}
use Rattle.ds2_tree.specs.UnitViews.{global_tree}
use Rattle.ds2_calls.specs.UnitsCalls.{HasCalls}
use Rattle.ds2_names.specs.NameRules.{from_each}
use Rattle.ds2_names.specs.SourceUnit.{SourceNames, source_methods}
use Rattle.ds2_name_uses.specs.BrokenUses.{broken_in_method}
use Rattle.ds2_scope.specs.Earliest.{earlier_of, earliest}
use Rattle.ds2_name_uses.specs.ScopeTables.{AreTablesOf}
use Rattle.ds2_name_uses.proofs.method_uses.in_methods.Given as goal

abbrev pub invariant-globals : goal.invariant-globals
invariant-globals l =
    (names : SourceNames) → AreTablesOf l.unit names → HasCalls l.calls names
    → earlier_of l.found (earliest (from_each (broken_in_method l.rule names) (source_methods (map global_tree (drop l.global-index l.globals)))))
    ≡ earliest (from_each (broken_in_method l.rule names) (source_methods (map global_tree l.globals)))
