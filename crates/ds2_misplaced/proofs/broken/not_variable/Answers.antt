use Rattle.std.proofs.Common.{◌+◌, drop, arith}
use Rattle.std.proofs.lemmas.Grind.{common_steps}
use Rattle.ds2_scope.specs.CodeUnits.{source_instance, instances_in_source}
use Rattle.ds2_scope.proofs.CollectedLemmas.{one_more_item}
use Rattle.ds2_misplaced.specs.InstanceRules.{not_variable_of}
use Rattle.ds2_misplaced.specs.InstanceTables.{tests_in_tables}
use Rattle.ds2_misplaced.proofs.broken.not_variable.Goals as goal

pub instances-preserved : goal.instances-preserved
instances-preserved c =
    let k = one_more_item (not_variable_of (tests_in_tables c.args.scope)) c.instances.found (source_instance c.instance-item.result) (instances_in_source (drop (c.instances.instance-index + 1) c.args.instances.now)) in
    grind (arith, common_steps, k, c.instances.invariant)
