use Rattle.std.proofs.Common.{◌≡◌}
use Rattle.ds2_unit.specs.Threads.{rows_kept}
use Rattle.ds2_group_job.proofs.job.rows_of.Given as goal

abbrev pub invariant-written : goal.invariant-written
invariant-written l = l.rows ≡ rows_kept l.yielded
