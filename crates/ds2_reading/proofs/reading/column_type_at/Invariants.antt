use Rattle.std.proofs.Common.{◌≡◌, length}
use Rattle.ds2_reading.specs.ReadingFits.{column_type_at}
use Rattle.ds2_reading.proofs.reading.column_type_at.Given as goal

abbrev pub invariant-slots : goal.invariant-slots
invariant-slots l = column_type_at l.rest l.columns_rest l.slot ≡ column_type_at l.slots l.columns l.slot

abbrev pub decreases-slots : goal.decreases-slots
decreases-slots l = length l.rest
