use Rattle.std.proofs.Common.{arith}
use Rattle.ds2_value.proofs.PowerLemmas.{ten-times-fits}
use Rattle.ds2_value.proofs.decimal_text.power_of_ten.Goals as goal

pub overflow_mul-unit : goal.overflow_mul-unit
overflow_mul-unit c = ten-times-fits c.tens.unit c.tens.i c.tens.invariant (omega arith)
