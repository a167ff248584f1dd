use Rattle.ds2_instance_types.proofs.DeclarationForms.{one_more_declared}
use Rattle.ds2_instance_types.proofs.instances.with_declaration.Goals as goal

pub returns : goal.returns
returns c = λ tables before scope done i h k. one_more_declared tables before scope done i c.args.d c.args.all _ h k c.in_ok-add.ensures
