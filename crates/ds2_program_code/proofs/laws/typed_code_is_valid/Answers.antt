use Rattle.ds2_program_code.proofs.Validity.{typed_code_is_valid}
use Rattle.ds2_program_code.proofs.laws.typed_code_is_valid.Goals as goal

pub returns : goal.returns
returns c = typed_code_is_valid c.typed_code_has_types.ensures c.typed_programs_have_valid_parts.ensures c.typed_values_are_allowed.ensures c.typed_layouts_fit.ensures
