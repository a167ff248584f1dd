use Rattle.ds2_meaning.proofs.Tables.{fault_leaves_no_table}
use Rattle.ds2_meaning.proofs.laws.fault_leaves_no_table.Goals as goal

pub returns : goal.returns
returns c = fault_leaves_no_table
