use Rattle.ds2_program_code.proofs.Openings.{typed_programs_open_alike}
use Rattle.ds2_program_code.proofs.laws.typed_programs_open_alike.Goals as goal

pub returns : goal.returns
returns c = typed_programs_open_alike c.each_value_has_type.ensures
