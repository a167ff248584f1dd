use Rattle.ds2_decimal.proofs.LawLemmas.{compare_total}
use Rattle.ds2_decimal.proofs.laws.compare_is_total.Goals as goal

pub returns : goal.returns
returns c = compare_total
