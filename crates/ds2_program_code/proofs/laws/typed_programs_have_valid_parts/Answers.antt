use Rattle.ds2_program_code.proofs.Ranges.{typed_programs_have_valid_parts}
use Rattle.ds2_program_code.proofs.laws.typed_programs_have_valid_parts.Goals as goal

pub returns : goal.returns
returns c = typed_programs_have_valid_parts c.each_value_has_type.ensures c.typed_programs_have_code.ensures
