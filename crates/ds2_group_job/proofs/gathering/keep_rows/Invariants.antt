use Rattle.std.proofs.Common.{◌≡◌, ◌++◌}
use Rattle.ds2_unit.specs.Threads.{rows_kept}
use Rattle.ds2_group_job.proofs.gathering.keep_rows.Given as goal

abbrev pub invariant-rows : goal.invariant-rows
invariant-rows l = (rows_kept l.written.rows ≡ rows_kept l.initial.written.rows ++ l.yielded) × (l.written.lines ≡ l.initial.written.lines)
