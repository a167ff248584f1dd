use Rattle.std.proofs.Common.{length}
use Rattle.ds2_exec.proofs.stages.+add_grains.Given as goal

abbrev pub decreases-add_grains : goal.decreases-add_grains
decreases-add_grains l = length l.stages.now
