use Rattle.std.proofs.Common.{◌≡◌, map, drop, slice_get}
use Rattle.ds2_meaning.specs.ProgramTree.{instance_methods}
use Rattle.ds2_meaning.specs.View.{instance_tree}
use Rattle.ds2_deeds.proofs.methods.instance_method.Given as goal

abbrev pub invariant-instances : goal.invariant-instances
invariant-instances l = slice_get (instance_methods (map instance_tree (drop l.instance-index l.instances)) l.name) l.k ≡ slice_get (instance_methods (map instance_tree l.instances) l.name) l.k
