use Rattle.ds2_program_text.proofs.SlotCells.{cell_added, cells_added, cells_left, no_column, no_slot}
use Rattle.ds2_program_text.proofs.records.add_cells.Goals as goal

pub cells-preserved : goal.cells-preserved
cells-preserved c =
    cell_added _ _ _ _ _ _ _ _ (cells_left _ _ _ _ _ c.in-len1-up.len_at_least c.column-item.is c.in-len1-up-rest.len_at_least c.slot-item.is)
    c.in_ok-add_separator-in-len1-up-rest.ensures c.in_ok-add_slot-in-len1-up-rest.ensures c.cells.invariant

pub returns-in-empty : goal.returns-in-empty
returns-in-empty c = cells_added _ _ _ _ _ (no_slot _ _ _ c.in-empty.len_below) c.cells.invariant

pub returns : goal.returns
returns c = cells_added _ _ _ _ _ (no_column _ _ _ c.in_default.len_below) c.cells.invariant
