use Rattle.ds2_meaning.proofs.StatementExamples.{choice_examples}
use Rattle.ds2_meaning.proofs.laws.choice_examples.Goals as goal

pub returns : goal.returns
returns c = choice_examples
