use Rattle.std.proofs.Common.{arith}
use Rattle.ds2_decimal.proofs.CountLemmas.{one-more, only-one, at-most, some-digits}
use Rattle.ds2_decimal.proofs.dec.digit_count.Goals as goal

pub overflow_add-digits : goal.overflow_add-digits
overflow_add-digits c =
    let some = some-digits c.tens.rest c.tens.invariant.small in
    let most = at-most c.args.magnitude c.requires in
    omega (arith, c.tens.invariant.count, some, most)

pub tens-preserved : goal.tens-preserved
tens-preserved c =
    let more = one-more c.tens.rest c.tens-test.true c.tens.invariant.small in
    record {
      count = omega (arith, c.tens.invariant.count, more);
      some = omega arith;
      small = let small = c.tens.invariant.small in omega (arith, small);
    }

pub returns-clause-value : goal.returns-clause-value
returns-clause-value c =
    let last = only-one c.tens.rest (omega (arith, c.tens-test.false)) in
    omega (arith, c.tens.invariant.count, last)

pub returns-clause-bound : goal.returns-clause-bound
returns-clause-bound c =
    let some = some-digits c.tens.rest c.tens.invariant.small in
    let most = at-most c.args.magnitude c.requires in
    omega (arith, c.tens.invariant.count, some, most)
