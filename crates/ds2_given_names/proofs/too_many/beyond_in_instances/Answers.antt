use Rattle.std.proofs.Common.{◌+◌, drop, arith}
use Rattle.std.proofs.lemmas.Grind.{common_steps}
use Rattle.ds2_scope.specs.CodeUnits.{source_instance, instances_in_source}
use Rattle.ds2_given_names.specs.TooMany.{too_many_in_instance}
use Rattle.ds2_scope.proofs.CollectedLemmas.{one_more_item}
use Rattle.ds2_given_names.proofs.too_many.beyond_in_instances.Goals as goal

pub instances-preserved : goal.instances-preserved
instances-preserved c =
    let k = one_more_item too_many_in_instance c.instances.found (source_instance c.instance-item.result) (instances_in_source (drop (c.instances.instance-index + 1) c.args.instances.now)) in
    grind (arith, common_steps, k, c.instances.invariant)
