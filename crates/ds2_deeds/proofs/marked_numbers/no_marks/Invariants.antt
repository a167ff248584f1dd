use Rattle.std.proofs.Common.{◌≡◌, false, replicate}
use Rattle.ds2_deeds.proofs.marked_numbers.no_marks.Given as goal

abbrev pub invariant-marks : goal.invariant-marks
invariant-marks l = l.marks ≡ replicate l.counter false
