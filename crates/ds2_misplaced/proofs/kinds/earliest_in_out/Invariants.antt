use Rattle.std.proofs.Common.{◌≡◌, drop}
use Rattle.ds2_names.specs.UnitRules.{in_out_words}
use Rattle.ds2_scope.specs.Earliest.{earlier_of, earliest}
use Rattle.ds2_misplaced.proofs.kinds.earliest_in_out.Given as goal

abbrev pub invariant-parameters : goal.invariant-parameters
invariant-parameters l = earlier_of l.found (earliest (in_out_words (drop l.parameter-index l.parameters))) ≡ earliest (in_out_words l.parameters)
