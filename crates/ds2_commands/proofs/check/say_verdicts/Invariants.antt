use Rattle.std.proofs.Common.{◌≡◌, ◌++◌, length}
use Rattle.ds2_commands.specs.CommandOutcomes.{verdicts_said}
use Rattle.ds2_commands.proofs.check.say_verdicts.Given as goal

abbrev pub invariant-verdicts : goal.invariant-verdicts
invariant-verdicts l = l.log ++ verdicts_said l.left ≡ l.initial.log ++ verdicts_said l.verdicts

abbrev pub decreases-verdicts : goal.decreases-verdicts
decreases-verdicts l = length l.left
