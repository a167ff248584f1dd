use Rattle.std.proofs.Common.{◌≡◌, drop}
use Rattle.ds2_names.specs.NameRules.{from_each}
use Rattle.ds2_scope.specs.Earliest.{earlier_of, earliest}
use Rattle.ds2_misplaced.specs.MisplacedParts.{repeated_options}
use Rattle.ds2_misplaced.proofs.methods_and_outputs.repeated_option.Given as goal

abbrev pub invariant-outputs : goal.invariant-outputs
invariant-outputs l = earlier_of l.found (earliest (from_each repeated_options (drop l.o-index l.outputs))) ≡ earliest (from_each repeated_options l.outputs)
