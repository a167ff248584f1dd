use Rattle.std.proofs.Common.{◌≡◌, ◌-◌, drop}
use Rattle.ds2_unit.specs.GivenScales.{have_given_scales}
use Rattle.ds2_unit.proofs.given.are_given_scaled.Given as goal

abbrev pub invariant-given : goal.invariant-given
invariant-given l = have_given_scales l.slots (drop l.n l.numbers) (drop l.n l.given) ≡ have_given_scales l.slots l.numbers l.given

abbrev pub decreases-given : goal.decreases-given
decreases-given l = l.count - l.n
