use Rattle.std.proofs.Common.{◌≡◌, ◌-◌, length, drop}
use Rattle.ds2_loads.specs.RowsBehind.{rows_behind}
use Rattle.ds2_loads.proofs.rows_in_turn.row_from.Given as goal

abbrev pub invariant-tables : goal.invariant-tables
invariant-tables l = rows_behind l.tables l.table l.row (drop l.table l.reads) ≡ rows_behind l.tables l.initial.table l.initial.row (drop l.initial.table l.reads)

abbrev pub decreases-tables : goal.decreases-tables
decreases-tables l = length l.reads - l.table
