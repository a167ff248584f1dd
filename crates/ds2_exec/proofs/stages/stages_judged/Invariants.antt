use Rattle.std.proofs.Common.{◌≡◌, ◌++◌, drop}
use Rattle.ds2_verdicts.specs.ThreadVerdicts.{verdict_named}
use Rattle.ds2_exec.specs.StageEnds.{judged_stages}
use Rattle.ds2_exec.proofs.stages.stages_judged.Given as goal

abbrev pub invariant-stages : goal.invariant-stages
invariant-stages l = l.judged ++ judged_stages (verdict_named l.verdicts) (drop l.stage-index l.stages) ≡ judged_stages (verdict_named l.verdicts) l.stages
