use Rattle.ds2_meaning.proofs.FurtherExamples.{fault_examples}
use Rattle.ds2_meaning.proofs.laws.fault_examples.Goals as goal

pub returns : goal.returns
returns c = fault_examples
