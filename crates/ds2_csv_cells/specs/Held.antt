-- Held: the value that was found in a cell.
use Rattle.std.specs.Prelude.{Option, Some, None}
use Rattle.ds2_value.specs.Cell.{lent_value}
use Rattle.ds2_value.specs.declared.value.Value.{Value}
use Rattle.ds2_value.specs.declared.value.Value.TheVariants.{Txt}
use Rattle.ds2_csv_cells.specs.declared.cell.CellValue.{CellValue}
use Rattle.ds2_csv_cells.specs.declared.cell.CellValue.TheVariants as found

-- the value that was found, or that there is none
abbrev pub held_value : CellValue → Option Value
held_value found.Bad = None
held_value (found.Lent v) = Some (lent_value v)
held_value (found.Filled t) = Some (Txt t)
