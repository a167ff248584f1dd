use Rattle.std.proofs.Common.{arith}
use Rattle.ds2_reading.proofs.Digits.{front_bound, digits_step, digits_end, one_more_digit}
use Rattle.ds2_reading.proofs.heads.bytes_head.Goals as goal

pub overflow_mul-head : goal.overflow_mul-head
overflow_mul-head c = record { fits = omega (arith, front_bound c.characters.i c.characters.head (omega arith) c.characters.invariant.1) }

pub overflow_add-head : goal.overflow_add-head
overflow_add-head c = record { fits = omega (arith, c.first_digit.ensures.bound, front_bound c.characters.i c.characters.head (omega arith) c.characters.invariant.1) }

pub characters-preserved : goal.characters-preserved
characters-preserved c = (
  digits_step c.characters.i c.characters.head c.characters.rest.now c.first_digit.result c.behind_digit-rest.result.now _ (omega arith) c.first_digit.ensures.value c.behind_digit-rest.ensures c.characters.invariant.0,
  one_more_digit c.characters.i c.characters.head c.first_digit.result c.characters.invariant.1 c.first_digit.ensures.bound,
)

pub overflow_mul-result : goal.overflow_mul-result
overflow_mul-result c = record { fits = omega (arith, front_bound c.characters.i c.characters.head (omega arith) c.characters.invariant.1) }

pub overflow_add-result : goal.overflow_add-result
overflow_add-result c = record { fits = omega (arith, c.rest_digit.ensures.bound, front_bound c.characters.i c.characters.head (omega arith) c.characters.invariant.1) }

pub returns-clause-value : goal.returns-clause-value
returns-clause-value c = digits_end c.characters.i c.characters.head c.characters.rest.now c.rest_digit.result _ (omega arith) c.rest_digit.ensures.value c.characters.invariant.0

pub returns-clause-bound : goal.returns-clause-bound
returns-clause-bound c = omega (arith, c.rest_digit.ensures.bound, front_bound c.characters.i c.characters.head (omega arith) c.characters.invariant.1)
