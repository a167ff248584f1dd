use Rattle.ds2_names.proofs.FurtherNameExamples.{further_name_examples}
use Rattle.ds2_names.proofs.laws.further_name_examples.Goals as goal

pub returns : goal.returns
returns c = further_name_examples
