use Rattle.ds2_elaboration.proofs.Returning.{returning_is_kept}
use Rattle.ds2_elaboration.proofs.laws.returning_is_kept.Goals as goal

pub returns : goal.returns
returns c = returning_is_kept
