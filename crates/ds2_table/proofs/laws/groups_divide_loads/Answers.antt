use Rattle.ds2_table.proofs.Groups.{groups_divide_loads}
use Rattle.ds2_table.proofs.laws.groups_divide_loads.Goals as goal

pub returns : goal.returns
returns c = groups_divide_loads
