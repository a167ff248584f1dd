use Rattle.ds2_decimal.proofs.LawLemmas.{quotient_near}
use Rattle.ds2_decimal.proofs.laws.quotient_is_near.Goals as goal

pub returns : goal.returns
returns c = quotient_near
