use Rattle.ds2_same_meaning.proofs.InCode.{independence_holds_in_code}
use Rattle.ds2_same_meaning.proofs.locality_laws.independence_holds_in_code.Goals as goal

pub returns : goal.returns
returns c = independence_holds_in_code c.fixed_is_fixed_in_code.ensures c.typed_loads_have_slots.ensures
