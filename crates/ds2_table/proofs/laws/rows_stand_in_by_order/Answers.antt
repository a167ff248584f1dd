use Rattle.ds2_table.proofs.Sorted.{rows_stand_in_by_order}
use Rattle.ds2_table.proofs.laws.rows_stand_in_by_order.Goals as goal

pub returns : goal.returns
returns c = rows_stand_in_by_order
