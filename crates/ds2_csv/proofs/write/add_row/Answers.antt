use Rattle.ds2_csv.specs.Text.{cells_text}
use Rattle.ds2_csv.proofs.Writing.{record-ended}
use Rattle.ds2_csv.proofs.write.add_row.Goals as goal

pub returns : goal.returns
returns c = record-ended _ _ _ c.len-start.result (cells_text c.args.columns.now c.args.row.now) c.len-start.ensures c.in_ok-row_cells.ensures c.in_ok-end_record.ensures
