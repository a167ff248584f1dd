use Rattle.std.proofs.Common.{◌≡◌, ◌++◌, drop, map}
use Rattle.std.specs.Prelude.{flat_map}
use Rattle.ds2_meaning.specs.View.{instance_tree}
use Rattle.ds2_layout.specs.Layout.{instance_slots}
use Rattle.ds2_layout.proofs.slots.add_instances.Given as goal

abbrev pub invariant-instances : goal.invariant-instances
invariant-instances l = l.slots ++ flat_map instance_slots (map instance_tree (drop l.instance-index l.instances)) ≡ l.fn.slots ++ flat_map instance_slots (map instance_tree l.instances)
