use Rattle.std.proofs.Common.{◌≡◌, ◌++◌, drop}
use Rattle.ds2_names.specs.NameRules.{from_each}
use Rattle.ds2_declared_types.specs.Joins.{unjoined_over}
use Rattle.ds2_declared_types.proofs.columns.unjoined_read.Given as goal

abbrev pub invariant-columns : goal.invariant-columns
invariant-columns l =
    l.unjoined ++ from_each (unjoined_over l.from.inputs.now l.from.stage l.from.row_types.now) (drop l.n-index l.columns)
    ≡ from_each (unjoined_over l.from.inputs.now l.from.stage l.from.row_types.now) l.columns
