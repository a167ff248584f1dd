use Rattle.ds2_meaning.proofs.ProgramExamples.{load_examples}
use Rattle.ds2_meaning.proofs.laws.load_examples.Goals as goal

pub returns : goal.returns
returns c = load_examples
