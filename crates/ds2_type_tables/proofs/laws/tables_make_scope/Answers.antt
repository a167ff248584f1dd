use Rattle.ds2_type_tables.proofs.CallableLemmas.{scope_of_tables}
use Rattle.ds2_type_tables.proofs.laws.tables_make_scope.Goals as goal

pub returns : goal.returns
returns c = λ types scope h k b m o. scope_of_tables types scope h k b m o
