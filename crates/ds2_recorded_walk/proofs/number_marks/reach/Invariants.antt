use Rattle.std.proofs.Common.{◌≡◌, ◌+◌, ◌-◌, ℕ, length}
use Rattle.ds2_recorded_walk.specs.LocationBits.{is_on}
use Rattle.ds2_recorded_walk.proofs.number_marks.reach.Given as goal

abbrev pub invariant-places : goal.invariant-places
invariant-places l = (n : ℕ) → is_on l.marks n ≡ is_on l.fn.marks n

abbrev pub decreases-places : goal.decreases-places
decreases-places l = l.place + 1 - length l.marks
