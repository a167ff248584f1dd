use Rattle.std.proofs.Common.{◌≡◌, ◌-◌, ◌*◌, ◌^◌, ◌<◌}
use Rattle.ds2_reading.specs.KeyHeads.{head_with_digits}
use Rattle.ds2_reading.proofs.heads.bytes_head.Given as goal

abbrev pub invariant-characters : goal.invariant-characters
invariant-characters l = (head_with_digits (12 - l.i) l.head l.rest ≡ head_with_digits 12 1 l.text) × (l.head < 2 * 128 ^ l.i)
