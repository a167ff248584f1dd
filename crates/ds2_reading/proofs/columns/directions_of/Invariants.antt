use Rattle.std.proofs.Common.{◌≡◌, ◌++◌, length}
use Rattle.ds2_reading.specs.ReadingKeys.{directions_of}
use Rattle.ds2_reading.proofs.columns.directions_of.Given as goal

abbrev pub invariant-bys : goal.invariant-bys
invariant-bys l = l.directions ++ directions_of l.rest ≡ directions_of l.bys

abbrev pub decreases-bys : goal.decreases-bys
decreases-bys l = length l.rest
