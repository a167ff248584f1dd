use Rattle.std.proofs.Common.{◌≡◌, drop}
use Rattle.ds2_names.specs.NameRules.{from_each}
use Rattle.ds2_scope.specs.CodeUnits.{instances_in_source}
use Rattle.ds2_scope.specs.Earliest.{earlier_of, earliest}
use Rattle.ds2_given_names.specs.TooMany.{too_many_in_instance}
use Rattle.ds2_given_names.proofs.too_many.beyond_in_instances.Given as goal

abbrev pub invariant-instances : goal.invariant-instances
invariant-instances l =
    earlier_of l.found (earliest (from_each too_many_in_instance (instances_in_source (drop l.instance-index l.instances)))) ≡ earliest (from_each too_many_in_instance (instances_in_source l.instances))
