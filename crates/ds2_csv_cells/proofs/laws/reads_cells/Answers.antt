use Rattle.ds2_csv_cells.proofs.LawCells.{value-read, cell-text}
use Rattle.ds2_csv_cells.proofs.laws.reads_cells.Goals as goal

pub returns : goal.returns
returns c = record { values = value-read c.reads_written.ensures; texts = cell-text }
