use Rattle.ds2_program_code.proofs.Counted.{typed_units_count_by_way}
use Rattle.ds2_program_code.proofs.count_laws.typed_units_count_by_way.Goals as goal

pub returns : goal.returns
returns c = typed_units_count_by_way c.units_count_alike.ensures c.typed_units_run_as_meant.ensures
