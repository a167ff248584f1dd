use Rattle.std.proofs.Common.{◌≡◌, ◌++◌, length}
use Rattle.ds2_exec.specs.StageEnds.{stages_counted}
use Rattle.ds2_exec.proofs.stages.count_stages.Given as goal

abbrev pub invariant-stages : goal.invariant-stages
invariant-stages l = l.log ++ stages_counted l.left ≡ l.initial.log ++ stages_counted l.stages

abbrev pub decreases-stages : goal.decreases-stages
decreases-stages l = length l.left
