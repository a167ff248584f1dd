use Rattle.std.proofs.Common.{◌≡◌, ◌^◌, ◌<◌, take, length}
use Rattle.ds2_table.specs.Loads.{input_rows}
use Rattle.ds2_reading.proofs.inputs.count_rows.Given as goal

abbrev pub invariant-tables : goal.invariant-tables
invariant-tables l = (l.rows ≡ length (input_rows 0 (take l.table l.tables))) × (l.rows < 2 ^ 64)
