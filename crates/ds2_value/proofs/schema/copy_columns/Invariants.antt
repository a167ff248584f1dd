use Rattle.std.proofs.Common.{◌≡◌, take}
use Rattle.ds2_value.proofs.schema.copy_columns.Given as goal

abbrev pub invariant-columns : goal.invariant-columns
invariant-columns l = l.copy ≡ take l.column-index l.columns
