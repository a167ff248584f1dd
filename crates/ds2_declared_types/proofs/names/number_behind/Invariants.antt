use Rattle.std.proofs.Common.{◌≡◌, length}
use Rattle.ds2_declared_types.specs.Numbers.{with_digits}
use Rattle.ds2_declared_types.proofs.names.number_behind.Given as goal

abbrev pub invariant-digits : goal.invariant-digits
invariant-digits l = with_digits l.value l.rest ≡ with_digits l.before l.digits

abbrev pub decreases-digits : goal.decreases-digits
decreases-digits l = length l.rest
