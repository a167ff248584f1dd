use Rattle.std.proofs.Common.{length}
use Rattle.ds2_object.proofs.ObjectSteps.{ProgramsLeft}
use Rattle.ds2_object.proofs.encoding.write_programs.Given as goal

abbrev pub invariant-programs : goal.invariant-programs
invariant-programs l = ProgramsLeft l.fn.out l.programs l.out l.rest

abbrev pub decreases-programs : goal.decreases-programs
decreases-programs l = length l.rest
