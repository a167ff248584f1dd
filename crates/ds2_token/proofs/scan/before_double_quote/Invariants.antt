use Rattle.std.proofs.Common.{◌≡◌, ◌+◌, length}
use Rattle.ds2_token.specs.Scan.{before_double_quote}
use Rattle.ds2_token.proofs.scan.before_double_quote.Given as goal

abbrev pub invariant-loop-rest : goal.invariant-loop-rest
invariant-loop-rest l = record {
  count : l.count + before_double_quote l.rest ≡ before_double_quote l.text;
  size : l.count + length l.rest ≡ length l.text;
}

abbrev pub decreases-loop-rest : goal.decreases-loop-rest
decreases-loop-rest l = length l.rest
