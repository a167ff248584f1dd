use Rattle.ds2_same_meaning.proofs.FixedCode.{fixed_is_fixed_in_code}
use Rattle.ds2_same_meaning.proofs.locality_laws.fixed_is_fixed_in_code.Goals as goal

pub returns : goal.returns
returns c = fixed_is_fixed_in_code c.typed_programs_have_code.ensures c.bodies_stay_in_list.ensures
