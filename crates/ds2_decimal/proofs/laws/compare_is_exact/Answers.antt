use Rattle.ds2_decimal.proofs.LawLemmas.{compare_exact}
use Rattle.ds2_decimal.proofs.laws.compare_is_exact.Goals as goal

pub returns : goal.returns
returns c = compare_exact
