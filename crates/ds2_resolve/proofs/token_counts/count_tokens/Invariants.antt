use Rattle.std.proofs.Common.{◌≡◌, List, drop}
use Rattle.ds2_names.specs.SourceLimits.{tokens_behind, beyond_tokens}
use Rattle.ds2_names.specs.SourceUnit.{KnownUnit}
use Rattle.ds2_scope.specs.CodeUnits.{instances_in_source}
use Rattle.ds2_scope.specs.Earliest.{earlier_of, earliest}
use Rattle.ds2_scope.specs.UnitsKnown.{KnowsUnits}
use Rattle.ds2_resolve.proofs.token_counts.count_tokens.Given as goal

abbrev pub invariant-instances : goal.invariant-instances
invariant-instances l =
    (units : List KnownUnit) → KnowsUnits l.known units
    → (earlier_of l.beyond (earliest (beyond_tokens 1000000 units l.behind (instances_in_source (drop l.instance-index l.instances)))) ≡ earliest (beyond_tokens 1000000 units l.count (instances_in_source l.instances)))
    × (tokens_behind units l.behind (instances_in_source (drop l.instance-index l.instances)) ≡ tokens_behind units l.count (instances_in_source l.instances))
