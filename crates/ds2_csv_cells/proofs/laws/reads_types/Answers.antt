use Rattle.ds2_csv_cells.proofs.LawTypes.{types-read}
use Rattle.ds2_csv_cells.proofs.laws.reads_types.Goals as goal

pub returns : goal.returns
returns c = types-read
