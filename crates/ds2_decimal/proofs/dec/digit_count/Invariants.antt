use Rattle.std.proofs.Common.{◌≡◌, ◌+◌, ◌^◌, ◌<◌, ◌≤◌, length}
use Rattle.std.specs.Fmt.{decimal}
use Rattle.ds2_decimal.proofs.dec.digit_count.Given as goal

abbrev pub invariant-tens : goal.invariant-tens
invariant-tens l = record {
  count : length (decimal l.rest) + l.digits ≡ length (decimal l.magnitude) + 1;
  some : 1 ≤ l.digits;
  small : l.rest < 10 ^ 38;
}

abbrev pub decreases-tens : goal.decreases-tens
decreases-tens l = l.rest
