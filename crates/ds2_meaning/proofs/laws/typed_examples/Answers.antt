use Rattle.ds2_meaning.proofs.TypedExamples.{typed_examples}
use Rattle.ds2_meaning.proofs.laws.typed_examples.Goals as goal

pub returns : goal.returns
returns c = typed_examples
