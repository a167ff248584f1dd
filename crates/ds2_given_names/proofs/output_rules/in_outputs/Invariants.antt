use Rattle.std.proofs.Common.{◌≡◌, drop}
use Rattle.ds2_names.specs.NameRules.{from_each}
use Rattle.ds2_names.specs.SourceUnit.{SourceNames}
use Rattle.ds2_names.specs.UnitRules.{output_without_columns}
use Rattle.ds2_scope.specs.Earliest.{earlier_of, earliest}
use Rattle.ds2_given_names.specs.OutputParts.{AreStatementLists, clashing_in}
use Rattle.ds2_scope.specs.UnitNames.{NamesAre}
use Rattle.ds2_given_names.proofs.output_rules.in_outputs.Given as goal

abbrev pub invariant-outputs : goal.invariant-outputs
invariant-outputs l =
    (all : SourceNames) → NamesAre l.names all → AreStatementLists l.statements all.unit.globals
    → (earlier_of l.found.clash (earliest (from_each (clashing_in all) (drop l.o-index l.outputs))) ≡ earliest (from_each (clashing_in all) l.outputs))
    × (earlier_of l.found.empty (earliest (from_each (output_without_columns all) (drop l.o-index l.outputs))) ≡ earliest (from_each (output_without_columns all) l.outputs))
