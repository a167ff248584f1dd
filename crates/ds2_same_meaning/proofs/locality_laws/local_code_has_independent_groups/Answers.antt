use Rattle.ds2_same_meaning.proofs.GroupsOfCode.{groups_are_independent}
use Rattle.ds2_same_meaning.proofs.locality_laws.local_code_has_independent_groups.Goals as goal

pub returns : goal.returns
returns c = groups_are_independent c.local_code_makes_stage.ensures c.typed_units_run_as_meant.ensures c.typed_loads_are_alike.ensures
