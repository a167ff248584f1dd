use Rattle.ds2_elaboration.proofs.SourceExamples.{layout_examples}
use Rattle.ds2_elaboration.proofs.laws.layout_examples.Goals as goal

pub returns : goal.returns
returns c = layout_examples
