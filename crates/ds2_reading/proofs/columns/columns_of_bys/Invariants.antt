use Rattle.std.proofs.Common.{◌≡◌, ◌++◌, length}
use Rattle.ds2_reading.specs.ReadingKeys.{columns_of_bys}
use Rattle.ds2_reading.proofs.columns.columns_of_bys.Given as goal

abbrev pub invariant-bys : goal.invariant-bys
invariant-bys l = l.columns ++ columns_of_bys l.slots l.rest ≡ columns_of_bys l.slots l.bys

abbrev pub decreases-bys : goal.decreases-bys
decreases-bys l = length l.rest
