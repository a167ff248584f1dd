use Rattle.ds2_same_meaning.proofs.InCode.{local_code_is_independent_in_code}
use Rattle.ds2_same_meaning.proofs.locality_laws.local_code_is_independent_in_code.Goals as goal

pub returns : goal.returns
returns c = local_code_is_independent_in_code c.local_code_is_independent.ensures c.independence_holds_in_code.ensures
