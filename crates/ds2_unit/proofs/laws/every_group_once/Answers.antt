use Rattle.ds2_unit.proofs.EveryGroup.{every_group_once}
use Rattle.ds2_unit.proofs.laws.every_group_once.Goals as goal

pub returns : goal.returns
returns c = every_group_once c.groups_are_all_loads.ensures
