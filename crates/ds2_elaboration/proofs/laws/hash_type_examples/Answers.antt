use Rattle.ds2_elaboration.proofs.PackageExamples.{hash_type_examples}
use Rattle.ds2_elaboration.proofs.laws.hash_type_examples.Goals as goal

pub returns : goal.returns
returns c = hash_type_examples
