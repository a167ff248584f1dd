use Rattle.std.proofs.Common.{◌*◌, ◌-◌, ◌^◌, ◌≤◌}
use Rattle.ds2_decimal.proofs.quotient.group_digits.Given as goal

abbrev pub invariant-loop-digits : goal.invariant-loop-digits
invariant-loop-digits l = record { some : 9 ≤ l.digits; bound : l.digits ≤ 18; square : 10 ^ (2 * l.digits) ≤ l.divisor }

abbrev pub decreases-loop-digits : goal.decreases-loop-digits
decreases-loop-digits l = 18 - l.digits
