use Rattle.std.proofs.Common.{◌≤◌, ◌-◌, length}
use Rattle.ds2_columns.specs.Marks.{SayTheSame}
use Rattle.ds2_columns.proofs.marks.mark.Given as goal

abbrev pub invariant-rows : goal.invariant-rows
invariant-rows l = (length l.marks ≤ l.row) × SayTheSame l.row l.initial.marks l.marks

abbrev pub decreases-rows : goal.decreases-rows
decreases-rows l = l.row - length l.marks
