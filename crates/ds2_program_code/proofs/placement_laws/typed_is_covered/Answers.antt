use Rattle.ds2_program_code.proofs.Covered.{typed_is_covered}
use Rattle.ds2_program_code.proofs.placement_laws.typed_is_covered.Goals as goal

pub returns : goal.returns
returns c = typed_is_covered
