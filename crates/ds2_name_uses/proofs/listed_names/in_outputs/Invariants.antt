use Rattle.std.proofs.Common.{◌≡◌, drop}
use Rattle.ds2_name_uses.specs.ListedParts.{unknown_in_output}
use Rattle.ds2_name_uses.specs.ScopeTables.{tests_by}
use Rattle.ds2_names.specs.NameRules.{from_each}
use Rattle.ds2_scope.specs.Earliest.{earlier_of, earliest}
use Rattle.ds2_name_uses.proofs.listed_names.in_outputs.Given as goal

abbrev pub invariant-outputs : goal.invariant-outputs
invariant-outputs l = earlier_of l.found (earliest (from_each (unknown_in_output (tests_by l.scope)) (drop l.o-index l.outputs))) ≡ earliest (from_each (unknown_in_output (tests_by l.scope)) l.outputs)
