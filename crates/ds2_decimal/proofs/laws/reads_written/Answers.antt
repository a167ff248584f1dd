use Rattle.ds2_decimal.proofs.ReadLemmas.{read_back}
use Rattle.ds2_decimal.proofs.laws.reads_written.Goals as goal

pub returns : goal.returns
returns c = read_back
