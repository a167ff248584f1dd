use Rattle.ds2_names.proofs.NameExamples.{name_examples}
use Rattle.ds2_names.proofs.laws.name_examples.Goals as goal

pub returns : goal.returns
returns c = name_examples
