use Rattle.std.proofs.Common.{length}
use Rattle.std.specs.List.{AllByRecursion}
use Rattle.ds2_columns.specs.Columns.{IsColumn}
use Rattle.ds2_table.proofs.columns.read_columns.Given as goal

abbrev pub invariant-columns : goal.invariant-columns
invariant-columns l = AllByRecursion IsColumn l.rest → AllByRecursion IsColumn l.columns

abbrev pub decreases-columns : goal.decreases-columns
decreases-columns l = length l.rest
