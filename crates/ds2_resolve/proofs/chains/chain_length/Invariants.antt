use Rattle.std.proofs.Common.{◌≡◌, ◌≤◌, List, drop}
use Rattle.std.specs.Prelude.{max}
use Rattle.ds2_names.specs.SourceLimits.{chain_length}
use Rattle.ds2_names.specs.SourceUnit.{KnownUnit}
use Rattle.ds2_scope.specs.CodeUnits.{instances_in_source}
use Rattle.ds2_scope.specs.UnitsKnown.{KnowsUnits}
use Rattle.ds2_resolve.proofs.chains.chain_length.Given as goal

abbrev pub invariant-instances : goal.invariant-instances
invariant-instances l =
    ((units : List KnownUnit) → KnowsUnits l.known units
    → max l.longest (chain_length units (instances_in_source (drop l.instance-index l.instances))) ≡ chain_length units (instances_in_source l.instances))
    × (1 ≤ l.longest)
