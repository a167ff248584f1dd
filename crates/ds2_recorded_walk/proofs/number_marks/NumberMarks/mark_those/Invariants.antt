use Rattle.std.proofs.Common.{◌≡◌, ℕ, drop}
use Rattle.std.specs.Prelude.{◌||◌}
use Rattle.ds2_recorded_walk.specs.MarkedSets.{is_on_from, is_marked}
use Rattle.ds2_recorded_walk.proofs.number_marks.NumberMarks.mark_those.Given as goal

abbrev pub invariant-marks : goal.invariant-marks
invariant-marks l = (n : ℕ) → (is_on_from l.number (drop l.mark-index l.marks) n || is_marked l.self n) ≡ (is_on_from l.fn.from l.marks n || is_marked l.fn.self n)
