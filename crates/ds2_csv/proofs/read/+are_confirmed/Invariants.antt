use Rattle.std.proofs.Common.{length}
use Rattle.ds2_csv.proofs.read.+are_confirmed.Given as goal

abbrev pub decreases-are_confirmed : goal.decreases-are_confirmed
decreases-are_confirmed l = length l.supposed.now
