use Rattle.std.proofs.Common.{◌≡◌, drop}
use Rattle.ds2_names.specs.NameRules.{from_each, renamed_twice}
use Rattle.ds2_scope.specs.Earliest.{earlier_of, earliest}
use Rattle.ds2_scope.proofs.duplicates.repeated_renaming.Given as goal

abbrev pub invariant-outputs : goal.invariant-outputs
invariant-outputs l = earlier_of l.found (earliest (from_each renamed_twice (drop l.o-index l.outputs))) ≡ earliest (from_each renamed_twice l.outputs)
