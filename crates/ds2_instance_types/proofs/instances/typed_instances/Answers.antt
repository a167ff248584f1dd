use Rattle.ds2_names.specs.SourceUnit.{columns_stored}
use Rattle.ds2_scope.specs.CodeUnits.{instances_in_source}
use Rattle.ds2_instance_types.proofs.DeclarationForms.{instances_stand}
use Rattle.ds2_instance_types.proofs.instances.typed_instances.Goals as goal

pub returns : goal.returns
returns c = λ before scope t m g.
    instances_stand (columns_stored c.args.tables.now) before scope (instances_in_source c.args.instances.now) c.in_ok-outcome.outcome (c.in_ok-outcome.ensures before scope t m g)
