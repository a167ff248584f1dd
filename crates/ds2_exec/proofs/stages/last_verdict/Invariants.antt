use Rattle.std.proofs.Common.{◌≡◌, drop, None}
use Rattle.std.specs.Option.{option_copied}
use Rattle.ds2_exec.specs.StageEnds.{last_verdict}
use Rattle.ds2_exec.proofs.stages.last_verdict.Given as goal

abbrev pub invariant-stages : goal.invariant-stages
invariant-stages l = last_verdict (option_copied l.verdict) (drop l.stage-index l.stages) ≡ last_verdict None l.stages
