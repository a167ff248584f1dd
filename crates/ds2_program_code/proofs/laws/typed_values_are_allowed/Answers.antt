use Rattle.ds2_program_code.proofs.Values.{typed_values_are_allowed}
use Rattle.ds2_program_code.proofs.laws.typed_values_are_allowed.Goals as goal

pub returns : goal.returns
returns c = typed_values_are_allowed c.each_value_has_type.ensures
