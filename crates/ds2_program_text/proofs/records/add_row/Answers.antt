use Rattle.ds2_csv.proofs.Writing.{record-ended}
use Rattle.ds2_program_text.proofs.SlotCells.{cells_named}
use Rattle.ds2_program_text.proofs.records.add_row.Goals as goal

pub returns : goal.returns
returns c =
    record-ended _ _ _ c.len-start.result (cells_named c.args.columns.now c.args.named.now c.args.slots.now) c.len-start.ensures c.in_ok-add_cells.ensures c.in_ok-end_record.ensures
