use Rattle.ds2_names.proofs.InstanceExamples.{unit_name_examples}
use Rattle.ds2_names.proofs.laws.unit_name_examples.Goals as goal

pub returns : goal.returns
returns c = unit_name_examples
