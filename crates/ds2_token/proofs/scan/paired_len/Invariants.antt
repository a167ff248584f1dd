use Rattle.std.proofs.Common.{◌≡◌, ◌+◌, length}
use Rattle.ds2_token.specs.Scan.{paired_len}
use Rattle.ds2_token.proofs.scan.paired_len.Given as goal

abbrev pub invariant-loop-rest : goal.invariant-loop-rest
invariant-loop-rest l = record {
  count : l.count + paired_len l.rest ≡ paired_len l.text;
  size : l.count + length l.rest ≡ length l.text;
}

abbrev pub decreases-loop-rest : goal.decreases-loop-rest
decreases-loop-rest l = length l.rest
