use Rattle.ds2_csv.specs.Text.{cells_text}
use Rattle.ds2_csv.proofs.Writing.{first-and-later, no-cells, row-left, row-none, row-short}
use Rattle.ds2_csv.proofs.write.row_cells.Goals as goal

pub returns-in-empty : goal.returns-in-empty
returns-in-empty c = no-cells c.args.out.now (cells_text c.args.columns.now c.args.row.now) (row-none c.args.columns.now c.args.row.now c.in-empty.len_below)

pub returns-in-empty-row : goal.returns-in-empty-row
returns-in-empty-row c = no-cells c.args.out.now (cells_text c.args.columns.now c.args.row.now) (row-short c.args.columns.now c.args.row.now c.in-empty-row.len_below)

pub returns-in_ok-later_cells-in-len1-up-row : goal.returns-in_ok-later_cells-in-len1-up-row
returns-in_ok-later_cells-in-len1-up-row c =
    first-and-later _ _ _ _ _ (cells_text c.args.columns.now c.args.row.now)
    (row-left _ _ _ _ c.in-len1-up.len_at_least c.column-item.is c.in-len1-up-row.len_at_least c.value-item.is)
    c.in_ok-write_cell-in-len1-up-row.ensures c.in_ok-later_cells-in-len1-up-row.ensures
