use Rattle.ds2_program_code.proofs.ProgramFits.{typed_programs_have_code}
use Rattle.ds2_program_code.proofs.laws.typed_programs_have_code.Goals as goal

pub returns : goal.returns
returns c = typed_programs_have_code c.placements_fit.ensures c.layout_roles_fit.ensures c.each_value_has_type.ensures c.typed_is_covered.ensures c.bodies_stay_in_list.ensures
