use Rattle.std.proofs.Common.{arith}
use Rattle.ds2_schedule.specs.Runs.{run_length}
use Rattle.ds2_schedule.proofs.cutting.length_of_runs.Goals as goal

pub returns : goal.returns
unfolding run_length
returns c = omega (arith, c.max.ensures, c.min.ensures)
