use Rattle.ds2_meaning.proofs.ReadingOrder.{groups_divide_readings}
use Rattle.ds2_meaning.proofs.laws.groups_divide_readings.Goals as goal

pub returns : goal.returns
returns c = groups_divide_readings c.groups_divide_loads.ensures c.readings_stand_in_by_order.ensures
