use Rattle.std.proofs.Common.{length}
use Rattle.ds2_exec.proofs.ProgramSteps.{TakenSoFar}
use Rattle.ds2_exec.proofs.programs.kept_tables.Given as goal

abbrev pub invariant-sinks : goal.invariant-sinks
invariant-sinks l = TakenSoFar l.fn.sinks l.rest l.tables

abbrev pub decreases-sinks : goal.decreases-sinks
decreases-sinks l = length l.rest
