use Rattle.std.proofs.Common.{take, arith}
use Rattle.ds2_scope.specs.CodeUnits.{instances_in_source}
use Rattle.ds2_type_tables.specs.Objects.{objects_called}
use Rattle.ds2_type_tables.proofs.ObjectLemmas.{has_more}
use Rattle.ds2_type_tables.proofs.objects.objects.Goals as goal

pub instances-preserved : goal.instances-preserved
instances-preserved c = λ before t.
    let done = objects_called before c.args.in_init (instances_in_source (take c.instances.instance-index c.args.instances.now)) in
    has_more c.note_if_called.new.objects before c.args.in_init c.args.instances.now c.instances.instance-index c.instance-item.result (omega arith) c.instance-item.is
    (c.in_ok-note_if_called.ensures before done t (c.instances.invariant before t))
