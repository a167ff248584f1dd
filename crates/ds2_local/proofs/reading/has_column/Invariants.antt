use Rattle.std.proofs.Common.{◌≡◌, drop}
use Rattle.ds2_value.specs.Schema.{has_column}
use Rattle.ds2_local.proofs.reading.has_column.Given as goal

abbrev pub invariant-columns : goal.invariant-columns
invariant-columns l = has_column l.name (drop l.column-index l.columns) ≡ has_column l.name l.columns
