use Rattle.std.proofs.Common.{◌≡◌, ◌++◌, drop}
use Rattle.ds2_generate.specs.OutputParts.{column_pairs}
use Rattle.ds2_generate.proofs.readings.output_columns.Given as goal

abbrev pub invariant-columns : goal.invariant-columns
invariant-columns l = l.list ++ column_pairs (drop l.column-index l.columns) l.rest ≡ column_pairs l.columns l.slots
