use Rattle.ds2_program_code.proofs.KeptTypes.{each_value_has_type}
use Rattle.ds2_program_code.proofs.placement_laws.each_value_has_type.Goals as goal

pub returns : goal.returns
returns c = each_value_has_type
