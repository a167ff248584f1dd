use Rattle.std.proofs.Common.{◌≡◌, ◌++◌, length}
use Rattle.ds2_exec.specs.CodeRuns.{rows_counted}
use Rattle.ds2_exec.proofs.programs.count_rows.Given as goal

abbrev pub invariant-tables : goal.invariant-tables
invariant-tables l = l.log ++ rows_counted l.left ≡ l.initial.log ++ rows_counted l.tables

abbrev pub decreases-tables : goal.decreases-tables
decreases-tables l = length l.left
