use Rattle.ds2_locality.specs.Deeds.{system_scope}
use Rattle.ds2_deeds.specs.CodeTrees.{scope_of, nameless_tree}
use Rattle.ds2_deeds.specs.NumberedDeeds.{numbers_of}
use Rattle.ds2_deeds.proofs.BodyLemmas.{instance_done}
use Rattle.ds2_deeds.proofs.bodies.init_deeds.Goals as goal

pub instances-preserved : goal.instances-preserved
instances-preserved c rest =
    instance_done (numbers_of c.args.numbers) (system_scope (nameless_tree c.args.program.now)) c.as_slice-instance-items.result.now c.instances.instance-index c.instance-item.result rest (scope_of c.system_scope-scope.result)
    c.instances.deeds _ _ c.instances-test.true c.instance-item.is c.system_scope-scope.ensures c.in_ok-add_constructor_deeds.ensures (c.instances.invariant rest)
