use Rattle.std.proofs.Common.{◌-◌, length}
use Rattle.ds2_table.specs.Across.{AddsMissing}
use Rattle.ds2_table.proofs.columns.add_missing.Given as goal

abbrev pub invariant-columns : goal.invariant-columns
invariant-columns l = AddsMissing l.schema l.initial.columns.items l.columns.items

abbrev pub decreases-columns : goal.decreases-columns
decreases-columns l = length l.schema - length l.columns.items
