use Rattle.std.proofs.Common.{◌≡◌, false, replicate}
use Rattle.ds2_recorded_walk.proofs.number_marks.begun_earlier.Given as goal

abbrev pub invariant-numbers : goal.invariant-numbers
invariant-numbers l = l.earlier ≡ replicate l.counter false
