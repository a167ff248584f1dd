use Rattle.std.proofs.Common.{◌≡◌, take}
use Rattle.ds2_value.proofs.value.copy_row.Given as goal

abbrev pub invariant-values : goal.invariant-values
invariant-values l = l.copy ≡ take l.value-index l.row
