use Rattle.std.proofs.Common.{◌≡◌, drop}
use Rattle.ds2_names.specs.SourceUnit.{instance_named}
use Rattle.ds2_scope.specs.CodeUnits.{instances_in_source}
use Rattle.ds2_scope.proofs.unit_names.find_instance.Given as goal

abbrev pub invariant-instances : goal.invariant-instances
invariant-instances l = instance_named (instances_in_source (drop l.instance-index l.instances)) l.name ≡ instance_named (instances_in_source l.instances) l.name
