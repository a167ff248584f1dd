use Rattle.std.proofs.Common.{◌≡◌, ◌++◌, ◌-◌, length, drop}
use Rattle.ds2_unit.proofs.thread.tables_behind.Given as goal

abbrev pub invariant-tables : goal.invariant-tables
invariant-tables l = l.behind ++ drop l.number l.tables ≡ drop l.first l.tables

abbrev pub decreases-tables : goal.decreases-tables
decreases-tables l = length l.tables - l.number
