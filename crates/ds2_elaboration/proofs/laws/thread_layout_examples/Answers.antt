use Rattle.ds2_elaboration.proofs.ListingExamples.{thread_layout_examples}
use Rattle.ds2_elaboration.proofs.laws.thread_layout_examples.Goals as goal

pub returns : goal.returns
returns c = thread_layout_examples
