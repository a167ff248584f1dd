use Rattle.std.proofs.Common.{◌+◌, refl, take, arith}
use Rattle.ds2_names.specs.SourceUnit.{columns_stored}
use Rattle.ds2_scope.specs.CodeUnits.{instances_in_source, source_instance}
use Rattle.ds2_elaboration.specs.ProgramTypes.{instance_refusals}
use Rattle.ds2_instance_types.specs.TypedInstanceLists.{instances_rules}
use Rattle.ds2_instance_types.proofs.DeclarationForms.{all_stand, one_more_stands, sources_more}
use Rattle.ds2_instance_types.proofs.instances.declared_instances.Goals as goal

pub instances-init : goal.instances-init
instances-init c = λ before scope t m g. (refl, c.no_instances.ensures (columns_stored c.args.context.tables.now) before scope)

pub instances-preserved : goal.instances-preserved
instances-preserved c = λ before scope t m g.
    let tables = columns_stored c.args.context.tables.now in
    let instance = c.instance-item.result in
    let i = source_instance instance in
    let done = instances_in_source (take c.instances.instance-index c.args.instances.now) in
    one_more_stands tables before scope done (instances_in_source (take (c.instances.instance-index + 1) c.args.instances.now)) i c.in_ok-all.all
    (sources_more c.args.instances.now c.instances.instance-index instance (omega arith) c.instance-item.is)
    (c.in_ok-all.ensures tables before scope done i (instances_rules tables before scope done) (instance_refusals tables before scope i i.sort) (c.instances.invariant before scope t m g)
    (c.in_ok-own.ensures before scope t m g))

pub returns : goal.returns
returns c = λ before scope t m g.
    all_stand (columns_stored c.args.context.tables.now) before scope c.args.instances.now c.instances.instance-index c.instances.all (omega arith) (c.instances.invariant before scope t m g)
