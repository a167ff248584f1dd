use Rattle.std.proofs.Common.{◌≡◌, drop}
use Rattle.ds2_names.specs.NameRules.{from_each}
use Rattle.ds2_scope.specs.Earliest.{earlier_of, earliest}
use Rattle.ds2_aliases.specs.HandedGlobals.{repeated_in_method}
use Rattle.ds2_aliases.proofs.aliases.repeated_handing.Given as goal

abbrev pub invariant-methods : goal.invariant-methods
invariant-methods l = earlier_of l.found (earliest (from_each repeated_in_method (drop l.m-index l.methods))) ≡ earliest (from_each repeated_in_method l.methods)
