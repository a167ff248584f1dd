use Rattle.ds2_elaboration.proofs.PackageExamples.{thread_type_examples}
use Rattle.ds2_elaboration.proofs.laws.thread_type_examples.Goals as goal

pub returns : goal.returns
returns c = thread_type_examples
