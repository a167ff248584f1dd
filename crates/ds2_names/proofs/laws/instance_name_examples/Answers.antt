use Rattle.ds2_names.proofs.InstanceExamples.{instance_name_examples}
use Rattle.ds2_names.proofs.laws.instance_name_examples.Goals as goal

pub returns : goal.returns
returns c = instance_name_examples
