use Rattle.ds2_elaboration.proofs.PackageExamples.{instance_type_examples}
use Rattle.ds2_elaboration.proofs.laws.instance_type_examples.Goals as goal

pub returns : goal.returns
returns c = instance_type_examples
