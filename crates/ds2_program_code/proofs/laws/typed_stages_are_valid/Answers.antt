use Rattle.ds2_program_code.proofs.Validity.{typed_stages_are_valid}
use Rattle.ds2_program_code.proofs.laws.typed_stages_are_valid.Goals as goal

pub returns : goal.returns
returns c = typed_stages_are_valid c.typed_code_is_valid.ensures
