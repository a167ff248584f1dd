use Rattle.ds2_misplaced.proofs.MisplacedLemmas.{is_both}
use Rattle.ds2_misplaced.proofs.laws.misplaced_is_both.Goals as goal

pub returns : goal.returns
returns c = is_both
