use Rattle.ds2_program_code.proofs.RowsAlike.{stage_rows_set_slots}
use Rattle.ds2_program_code.proofs.laws.stage_rows_set_slots.Goals as goal

pub returns : goal.returns
returns c = stage_rows_set_slots
