use Rattle.ds2_table.proofs.LoadOrder.{loads_stand_in_by_order}
use Rattle.ds2_table.proofs.laws.loads_stand_in_by_order.Goals as goal

pub returns : goal.returns
returns c = loads_stand_in_by_order
