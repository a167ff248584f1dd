use Rattle.std.proofs.Common.{◌≡◌, ℕ, not}
use Rattle.std.specs.Prelude.{◌&&◌, ◌||◌, nat_lt}
use Rattle.ds2_recorded_walk.specs.MarkedSets.{is_marked}
use Rattle.ds2_recorded_walk.proofs.number_marks.NumberMarks.mark_range.Given as goal

abbrev pub invariant-numbers : goal.invariant-numbers
invariant-numbers l = (n : ℕ) → is_marked l.self n ≡ ((not (nat_lt n l.fn.from) && nat_lt n l.number) || is_marked l.fn.self n)
