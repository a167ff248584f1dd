use Rattle.ds2_meaning.proofs.EdgeExamples.{edge_examples}
use Rattle.ds2_meaning.proofs.laws.edge_examples.Goals as goal

pub returns : goal.returns
returns c = edge_examples
