use Rattle.ds2_elaboration.proofs.ListingExamples.{listed_column_examples}
use Rattle.ds2_elaboration.proofs.laws.listed_column_examples.Goals as goal

pub returns : goal.returns
returns c = listed_column_examples
