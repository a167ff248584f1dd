use Rattle.std.proofs.Common.{◌≡◌}
use Rattle.ds2_value.specs.Hashing.{lowest}
use Rattle.ds2_value.proofs.hashing.lowest_in_word.Given as goal

abbrev pub invariant-zeros : goal.invariant-zeros
invariant-zeros l = lowest l.m l.s ≡ lowest l.magnitude l.scale

abbrev pub decreases-zeros : goal.decreases-zeros
decreases-zeros l = l.s
