use Rattle.std.proofs.Common.{◌≡◌, ◌++◌, length, map, drop, Some}
use Rattle.std.specs.Prelude.{flat_map}
use Rattle.ds2_meaning.specs.ProgramTree.{InstanceTree}
use Rattle.ds2_meaning.specs.View.{instance_tree}
use Rattle.ds2_deeds.specs.CodeTrees.{nameless_tree}
use Rattle.ds2_deeds.specs.NamedMethods.{methods_named, home_methods, methods_in_order}
use Rattle.ds2_deeds.proofs.methods.methods_in_order.Given as goal

abbrev pub invariant-instances : goal.invariant-instances
invariant-instances l =
    methods_named l.methods ++ flat_map (λ (i : InstanceTree). home_methods (Some i.name) (length i.methods)) (map instance_tree (drop l.instance-index l.program.instances))
    ≡ methods_in_order (nameless_tree l.program)
