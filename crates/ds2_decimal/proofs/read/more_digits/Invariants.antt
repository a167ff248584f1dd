use Rattle.std.proofs.Common.{◌≡◌, ◌^◌, ◌<◌, drop}
use Rattle.ds2_decimal.specs.Steps.{digits_behind}
use Rattle.ds2_decimal.proofs.read.more_digits.Given as goal

abbrev pub invariant-loop-digit : goal.invariant-loop-digit
invariant-loop-digit l =
    record {
      digits : l.value < 10 ^ 38;
      still : digits_behind l.fn.number l.digits ≡ digits_behind l.value (drop l.digit-index l.digits);
    }
