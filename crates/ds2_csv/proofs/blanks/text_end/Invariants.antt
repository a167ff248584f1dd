use Rattle.std.proofs.Common.{◌≡◌, ◌≤◌, ◌<◌, take, length, get_or}
use Rattle.ds2_csv.specs.Header.{without_last_blanks}
use Rattle.ds2_csv.proofs.blanks.text_end.Given as goal

abbrev pub invariant-bytes : goal.invariant-bytes
invariant-bytes l = record {
  text : without_last_blanks (take l.end l.bytes) ≡ without_last_blanks l.bytes;
  within : l.end ≤ length l.bytes;
  blank : l.end < length l.bytes → get_or l.bytes l.end 0 < 128;
}

abbrev pub decreases-bytes : goal.decreases-bytes
decreases-bytes l = l.end
