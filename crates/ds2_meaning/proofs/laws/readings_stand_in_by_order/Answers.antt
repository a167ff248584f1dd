use Rattle.ds2_meaning.proofs.ReadingOrder.{readings_stand_in_by_order}
use Rattle.ds2_meaning.proofs.laws.readings_stand_in_by_order.Goals as goal

pub returns : goal.returns
returns c = readings_stand_in_by_order c.loads_stand_in_by_order.ensures
