use Rattle.std.proofs.Common.{◌≡◌, drop}
use Rattle.ds2_names.specs.NameRules.{from_each}
use Rattle.ds2_scope.specs.CodeUnits.{instances_in_source}
use Rattle.ds2_scope.specs.Earliest.{earlier_of, earliest}
use Rattle.ds2_misplaced.specs.InstanceRules.{wrong_of}
use Rattle.ds2_misplaced.specs.InstanceTables.{tests_in_tables}
use Rattle.ds2_misplaced.proofs.broken.wrong_count.Given as goal

abbrev pub invariant-instances : goal.invariant-instances
invariant-instances l =
    earlier_of l.found (earliest (from_each (wrong_of (tests_in_tables l.scope)) (instances_in_source (drop l.instance-index l.instances))))
    ≡ earliest (from_each (wrong_of (tests_in_tables l.scope)) (instances_in_source l.instances))
