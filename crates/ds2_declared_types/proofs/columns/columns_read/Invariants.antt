use Rattle.std.proofs.Common.{◌≡◌, ◌++◌, drop}
use Rattle.std.specs.Prelude.{map}
use Rattle.ds2_declared_types.specs.Joins.{column_over}
use Rattle.ds2_declared_types.proofs.columns.columns_read.Given as goal

abbrev pub invariant-columns : goal.invariant-columns
invariant-columns l =
    l.variables ++ map (column_over l.from.inputs.now l.from.stage l.from.row_types.now) (drop l.n-index l.columns) ≡ map (column_over l.from.inputs.now l.from.stage l.from.row_types.now) l.columns
