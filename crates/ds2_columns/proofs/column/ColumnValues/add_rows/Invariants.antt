use Rattle.std.proofs.Common.{◌≡◌, take}
use Rattle.ds2_columns.specs.Columns.{with_rows}
use Rattle.ds2_columns.proofs.column.ColumnValues.add_rows.Given as goal

abbrev pub invariant-rows : goal.invariant-rows
invariant-rows l = l.column ≡ with_rows l.initial.column l.self.values (take l.row-index l.order)
