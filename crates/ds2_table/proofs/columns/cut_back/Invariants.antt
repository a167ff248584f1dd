use Rattle.std.proofs.Common.{◌≡◌, ◌++◌, drop, map, take}
use Rattle.ds2_columns.specs.Columns.{first_values}
use Rattle.ds2_table.proofs.columns.cut_back.Given as goal

abbrev pub invariant-columns : goal.invariant-columns
invariant-columns l = l.columns.items ≡ map (first_values l.count) (take l.i l.initial.columns.items) ++ drop l.i l.initial.columns.items
