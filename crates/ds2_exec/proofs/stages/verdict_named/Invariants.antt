use Rattle.std.proofs.Common.{◌≡◌, drop}
use Rattle.ds2_verdicts.specs.ThreadVerdicts.{verdict_named}
use Rattle.ds2_exec.proofs.stages.verdict_named.Given as goal

abbrev pub invariant-verdicts : goal.invariant-verdicts
invariant-verdicts l = verdict_named (drop l.verdict-index l.verdicts) l.name ≡ verdict_named l.verdicts l.name
