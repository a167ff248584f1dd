use Rattle.std.proofs.Common.{◌≡◌, ◌+◌, length}
use Rattle.ds2_token.specs.Scan.{comment_end, further}
use Rattle.ds2_token.proofs.scan.comment_end.Given as goal

abbrev pub invariant-loop-rest : goal.invariant-loop-rest
invariant-loop-rest l = record {
  found : further l.passed (comment_end l.rest) ≡ comment_end l.text;
  size : l.passed + length l.rest ≡ length l.text;
}

abbrev pub decreases-loop-rest : goal.decreases-loop-rest
decreases-loop-rest l = length l.rest
