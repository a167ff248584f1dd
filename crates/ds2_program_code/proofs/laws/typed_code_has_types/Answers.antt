use Rattle.ds2_program_code.proofs.TypedPoints.{typed_code_has_types}
use Rattle.ds2_program_code.proofs.laws.typed_code_has_types.Goals as goal

pub returns : goal.returns
returns c = typed_code_has_types c.each_value_has_type.ensures c.statements_have_types.ensures
