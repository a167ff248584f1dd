use Rattle.ds2_names.proofs.RuleExamples.{output_name_examples}
use Rattle.ds2_names.proofs.laws.output_name_examples.Goals as goal

pub returns : goal.returns
returns c = output_name_examples
