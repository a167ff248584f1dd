use Rattle.std.proofs.Common.{◌≡◌, map, drop}
use Rattle.ds2_meaning.specs.ProgramTree.{instance_objects}
use Rattle.ds2_meaning.specs.View.{instance_tree}
use Rattle.ds2_deeds.proofs.scope.instance_scope.Given as goal

abbrev pub invariant-instances : goal.invariant-instances
invariant-instances l = instance_objects (map instance_tree (drop l.instance-index l.instances)) l.name ≡ instance_objects (map instance_tree l.instances) l.name
