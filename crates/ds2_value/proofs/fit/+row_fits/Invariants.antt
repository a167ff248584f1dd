use Rattle.std.proofs.Common.{length}
use Rattle.ds2_value.proofs.fit.+row_fits.Given as goal

abbrev pub decreases-row_fits : goal.decreases-row_fits
decreases-row_fits l = length l.row.now
