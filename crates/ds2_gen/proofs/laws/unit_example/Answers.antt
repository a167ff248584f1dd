use Rattle.ds2_gen.proofs.UnitExample.{unit_example}
use Rattle.ds2_gen.proofs.laws.unit_example.Goals as goal

pub returns : goal.returns
returns c = unit_example
