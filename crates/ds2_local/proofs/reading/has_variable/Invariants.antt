use Rattle.std.proofs.Common.{◌≡◌, drop}
use Rattle.ds2_meaning.specs.ProgramTree.{has_variable}
use Rattle.ds2_local.proofs.reading.has_variable.Given as goal

abbrev pub invariant-variables : goal.invariant-variables
invariant-variables l = has_variable (drop l.variable-index l.variables) l.name ≡ has_variable l.variables l.name
