use Rattle.ds2_instance_types.specs.Declarations.{IsDeclared}
use Rattle.ds2_instance_types.specs.TypedInstanceLists.{AreDeclared}
use Rattle.ds2_instance_types.proofs.DeclarationForms.{further_instance}
use Rattle.ds2_instance_types.proofs.instances.further.Goals as goal

pub returns-in-Err : goal.returns-in-Err
returns-in-Err c = λ tables before scope done i xs ys h k.
    further_instance (AreDeclared tables before scope done) (IsDeclared tables before scope i) xs ys c.args.all c.args.d c.instances_and.result _ h k c.instances_and.ensures c.in-Err.is

pub returns-in_ok-more-in-Ok : goal.returns-in_ok-more-in-Ok
returns-in_ok-more-in-Ok c = λ tables before scope done i xs ys h k.
    let so =
    further_instance (AreDeclared tables before scope done) (IsDeclared tables before scope i) xs ys c.args.all c.args.d c.instances_and.result _ h k c.instances_and.ensures c.in-Ok.is in
    (so.0, c.in_ok-more-in-Ok.ensures tables before scope done i so.1.0 so.1.1)
