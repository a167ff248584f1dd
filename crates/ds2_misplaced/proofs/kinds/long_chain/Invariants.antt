use Rattle.std.proofs.Common.{◌≡◌, List, drop}
use Rattle.ds2_names.specs.NameRules.{from_each}
use Rattle.ds2_names.specs.SourceUnit.{KnownUnit}
use Rattle.ds2_names.specs.UnitRules.{makes_long_chain}
use Rattle.ds2_scope.specs.CodeUnits.{instances_in_source}
use Rattle.ds2_scope.specs.Earliest.{earlier_of, earliest}
use Rattle.ds2_misplaced.specs.MisplacedParts.{keyword_where}
use Rattle.ds2_scope.specs.UnitsKnown.{KnowsUnits}
use Rattle.ds2_misplaced.proofs.kinds.long_chain.Given as goal

abbrev pub invariant-instances : goal.invariant-instances
invariant-instances l =
    (units : List KnownUnit) → KnowsUnits l.known units
    → earlier_of l.found (earliest (from_each (keyword_where (makes_long_chain units)) (instances_in_source (drop l.instance-index l.instances))))
    ≡ earliest (from_each (keyword_where (makes_long_chain units)) (instances_in_source l.instances))
