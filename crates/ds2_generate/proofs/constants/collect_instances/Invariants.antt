use Rattle.std.proofs.Common.{◌≡◌, map, drop}
use Rattle.std.specs.Prelude.{flat_map}
use Rattle.ds2_meaning.specs.View.{instance_tree}
use Rattle.ds2_generate.specs.ConstantWalk.{constants_of_instance}
use Rattle.ds2_constants.specs.UsedOnce.{with_used}
use Rattle.ds2_generate.proofs.constants.collect_instances.Given as goal

abbrev pub invariant-instances : goal.invariant-instances
invariant-instances l = with_used (flat_map constants_of_instance (map instance_tree (drop l.instance-index l.instances))) l.table ≡ with_used (flat_map constants_of_instance (map instance_tree l.instances)) l.fn.table
