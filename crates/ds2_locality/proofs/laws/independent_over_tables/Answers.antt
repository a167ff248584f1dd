use Rattle.ds2_locality.proofs.Joining.{independent_over_tables}
use Rattle.ds2_locality.proofs.laws.independent_over_tables.Goals as goal

pub returns : goal.returns
returns c = independent_over_tables
