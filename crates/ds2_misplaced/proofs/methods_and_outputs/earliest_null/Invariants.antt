use Rattle.std.proofs.Common.{◌≡◌, drop}
use Rattle.ds2_names.specs.NameRules.{from_each}
use Rattle.ds2_scope.specs.Earliest.{earlier_of, earliest}
use Rattle.ds2_misplaced.specs.MisplacedParts.{null_place}
use Rattle.ds2_misplaced.proofs.methods_and_outputs.earliest_null.Given as goal

abbrev pub invariant-outputs : goal.invariant-outputs
invariant-outputs l = earlier_of l.found (earliest (from_each null_place (drop l.o-index l.outputs))) ≡ earliest (from_each null_place l.outputs)
