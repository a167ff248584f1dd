-- Values that are lent.
use Rattle.ds2_value.specs.declared.cell.Cell.{Cell}
use Rattle.ds2_value.specs.declared.cell.Cell.TheVariants as cell
use Rattle.ds2_value.specs.declared.value.Value.{Value}
use Rattle.ds2_value.specs.declared.value.Value.TheVariants.{Null, Int, Dec, Txt}

-- the value that a cell lends
abbrev pub lent_value : Cell → Value
lent_value cell.Null = Null
lent_value (cell.Int i) = Int i
lent_value (cell.Dec d) = Dec d
lent_value (cell.Txt t) = Txt t.now
