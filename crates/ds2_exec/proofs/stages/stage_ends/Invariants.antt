use Rattle.std.proofs.Common.{◌≡◌, ◌++◌, length}
use Rattle.ds2_exec.specs.StageEnds.{stages_noted}
use Rattle.ds2_exec.proofs.stages.stage_ends.Given as goal

abbrev pub invariant-notes : goal.invariant-notes
invariant-notes l = l.ends ++ stages_noted l.stages l.left ≡ stages_noted l.stages l.notes

abbrev pub decreases-notes : goal.decreases-notes
decreases-notes l = length l.left
