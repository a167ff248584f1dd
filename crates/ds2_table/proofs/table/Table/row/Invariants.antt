use Rattle.std.proofs.Common.{◌≡◌, take}
use Rattle.ds2_table.specs.Across.{row_across}
use Rattle.ds2_table.proofs.table.Table.row.Given as goal

abbrev pub invariant-columns : goal.invariant-columns
invariant-columns l = l.values ≡ row_across (take l.column-index l.column-items) l.row
