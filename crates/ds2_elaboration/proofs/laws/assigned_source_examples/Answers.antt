use Rattle.ds2_elaboration.proofs.ListingExamples.{assigned_source_examples}
use Rattle.ds2_elaboration.proofs.laws.assigned_source_examples.Goals as goal

pub returns : goal.returns
returns c = assigned_source_examples
