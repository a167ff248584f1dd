use Rattle.ds2_meaning.proofs.HashExamples.{hash_examples}
use Rattle.ds2_meaning.proofs.laws.hash_examples.Goals as goal

pub returns : goal.returns
returns c = hash_examples
