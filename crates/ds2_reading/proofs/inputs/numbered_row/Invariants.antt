use Rattle.std.proofs.Common.{◌≡◌, drop}
use Rattle.std.specs.Prelude.{slice_get}
use Rattle.ds2_table.specs.Loads.{input_rows}
use Rattle.ds2_reading.proofs.inputs.numbered_row.Given as goal

abbrev pub invariant-tables : goal.invariant-tables
invariant-tables l = slice_get (input_rows l.table (drop l.table l.tables)) l.left ≡ slice_get (input_rows 0 l.tables) l.fn.number
