use Rattle.std.proofs.Common.{◌≡◌, ◌++◌, drop}
use Rattle.std.specs.Prelude.{map}
use Rattle.ds2_declared_types.specs.TypesKnown.{column_read}
use Rattle.ds2_declared_types.proofs.stages.output_columns.Given as goal

abbrev pub invariant-listed : goal.invariant-listed
invariant-listed l = l.columns ++ map column_read (drop l.c-index l.c-items) ≡ map column_read l.c-items
