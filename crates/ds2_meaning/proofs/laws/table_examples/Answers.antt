use Rattle.ds2_meaning.proofs.FormExamples.{table_examples}
use Rattle.ds2_meaning.proofs.laws.table_examples.Goals as goal

pub returns : goal.returns
returns c = table_examples
