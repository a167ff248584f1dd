use Rattle.std.proofs.Common.{◌≡◌, ◌-◌, ◌<◌, ◌≤◌, length, take, drop, get_or}
use Rattle.ds2_token.specs.Forms.{IsGap}
use Rattle.ds2_token.specs.Scan.{piece_size}
use Rattle.ds2_token.proofs.lexer.gap_len.Given as goal

abbrev pub invariant-loop-size : goal.invariant-loop-size
invariant-loop-size l = record {
  size : l.size ≡ piece_size l.rest;
  within : l.size ≤ length l.rest;
  rest : l.rest ≡ drop l.passed l.text;
  fits : l.passed ≤ length l.text;
  gap : IsGap (take l.passed l.text);
  ends : 0 < l.passed → get_or l.text (l.passed - 1) 0 < 128;
}

abbrev pub decreases-loop-size : goal.decreases-loop-size
decreases-loop-size l = length l.rest
