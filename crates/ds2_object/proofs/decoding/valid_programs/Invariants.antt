use Rattle.std.proofs.Common.{length}
use Rattle.ds2_object.proofs.ObjectSteps.{ValidLeft}
use Rattle.ds2_object.proofs.decoding.valid_programs.Given as goal

abbrev pub invariant-programs : goal.invariant-programs
invariant-programs l = ValidLeft l.fn.programs l.codes l.rest

abbrev pub decreases-programs : goal.decreases-programs
decreases-programs l = length l.rest
