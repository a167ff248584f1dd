use Rattle.ds2_program_code.proofs.UnitsInTurn.{typed_units_run_as_meant}
use Rattle.ds2_program_code.proofs.laws.typed_units_run_as_meant.Goals as goal

pub returns : goal.returns
returns c = typed_units_run_as_meant c.each_value_has_type.ensures c.typed_loads_have_slots.ensures c.typed_programs_keep_meaning.ensures
