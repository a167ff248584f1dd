use Rattle.ds2_meaning.proofs.FormExamples.{fault_form_examples}
use Rattle.ds2_meaning.proofs.laws.fault_form_examples.Goals as goal

pub returns : goal.returns
returns c = fault_form_examples
