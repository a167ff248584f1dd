use Rattle.ds2_type_tables.proofs.ScopeTables.{variables_of_tables}
use Rattle.ds2_type_tables.proofs.laws.tables_tell_variables.Goals as goal

pub returns : goal.returns
returns c = λ types scope h k name. variables_of_tables types scope h k name
