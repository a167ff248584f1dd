use Rattle.std.proofs.Common.{◌≡◌, take}
use Rattle.ds2_table.specs.Across.{with_each}
use Rattle.ds2_table.proofs.columns.push_each.Given as goal

abbrev pub invariant-columns : goal.invariant-columns
invariant-columns l = l.columns.items ≡ with_each l.initial.columns.items (take l.i l.row)
