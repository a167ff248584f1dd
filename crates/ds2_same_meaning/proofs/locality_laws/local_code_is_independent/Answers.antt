use Rattle.ds2_same_meaning.proofs.LocalCode.{local_code_is_independent}
use Rattle.ds2_same_meaning.proofs.locality_laws.local_code_is_independent.Goals as goal

pub returns : goal.returns
returns c = local_code_is_independent c.local_is_independent.ensures c.typed_units_run_as_meant.ensures c.typed_units_count_by_way.ensures
