use Rattle.ds2_csv.proofs.Writing.{field-taken, fields-ended, row-left, row-none, row-short}
use Rattle.ds2_csv.proofs.write.later_cells.Goals as goal

pub cells-preserved : goal.cells-preserved
cells-preserved c =
    field-taken _ _ _ _ _ _ _ (row-left _ _ _ _ c.in-len1-up.len_at_least c.column-item.is c.in-len1-up-rest.len_at_least c.value-item.is)
    c.in_ok-add_separator-in-len1-up-rest.ensures c.in_ok-write_cell-in-len1-up-rest.ensures c.cells.invariant

pub returns-in-empty : goal.returns-in-empty
returns-in-empty c = fields-ended _ _ _ (row-short _ _ c.in-empty.len_below) c.cells.invariant

pub returns : goal.returns
returns c = fields-ended _ _ _ (row-none _ _ c.in_default.len_below) c.cells.invariant
