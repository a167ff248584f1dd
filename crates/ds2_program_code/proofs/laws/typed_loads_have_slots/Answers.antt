use Rattle.ds2_program_code.proofs.LoadsTyped.{typed_loads_have_slots}
use Rattle.ds2_program_code.proofs.laws.typed_loads_have_slots.Goals as goal

pub returns : goal.returns
returns c = typed_loads_have_slots
