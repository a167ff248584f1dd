use Rattle.ds2_loads.proofs.GroupLaws.{groups_are_all_loads}
use Rattle.ds2_loads.proofs.laws.groups_are_all_loads.Goals as goal

pub returns : goal.returns
returns c = groups_are_all_loads c.loads_stand_in_by_order.ensures c.groups_divide_loads.ensures
