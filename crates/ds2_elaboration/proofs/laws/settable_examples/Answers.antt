use Rattle.ds2_elaboration.proofs.ListingExamples.{settable_examples}
use Rattle.ds2_elaboration.proofs.laws.settable_examples.Goals as goal

pub returns : goal.returns
returns c = settable_examples
